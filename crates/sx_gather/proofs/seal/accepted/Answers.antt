use Rattle.std.proofs.Common.{◌≡◌, ◌<◌, List, length, get_or, Option, Some, sym, ap, subst, ◌∙◌, arith}
use Rattle.std.specs.Prelude.{slice_get, vec_len, IfSome}
use Rattle.std.proofs.lemmas.Option.{slice_get-get_or}
use Rattle.sx_outcome.specs.declared.outcome.Outcome.{Outcome}
use Rattle.sx_outcome.specs.declared.outcome.Outcome.TheVariants as outcome
use Rattle.sx_outcome.specs.Gathering.{is_accepted}
use Rattle.sx_tx.specs.declared.tx.Tx.{Tx}
use Rattle.sx_gather.proofs.Decided.{accepted_none}
use Rattle.sx_gather.proofs.Keeping.{kept_more, left_out}
use Rattle.sx_gather.proofs.seal.accepted.Goals as goal
use Rattle.sx_gather.proofs.seal.accepted.Goals.{then-is_accepted, else-is_accepted}

pub loop-place-init : goal.loop-place-init
loop-place-init c =
    let same = c.into_items-txs.ensures in
    let long = ap (λ (txs : List Tx). length txs) same in
    record {
      one_each = omega (arith, long, c.requires, c.into_items-txs.result.ok);
      keeps = record {
        front = sym (accepted_none c.args.candidates);
        rest = same;
        behind = omega arith;
        long = long;
      };
    }

pub loop-place-preserved : goal.loop-place-preserved
loop-place-preserved c =
    let place = c.loop-place.place in
    let outcomes = c.args.outcomes.now in
    let said = get_or outcomes place outcome.Accepted in
    let keeps = c.loop-place.invariant.keeps in
    let within : place < length outcomes = omega (arith, c.loop-place-test.true, c.len-place-end.ensures) in
    let inside : place < length c.loop-place.txs.items =
    omega (arith, within, c.loop-place.invariant.one_each, c.loop-place.txs.ok) in
    let there : slice_get outcomes place ≡ Some said = slice_get-get_or outcomes place outcome.Accepted within in
    let tells : c.is_accepted.result ≡ is_accepted said =
    subst (λ (o : Option Outcome). IfSome o (λ one. c.is_accepted.result ≡ is_accepted one)) there
    c.is_accepted.ensures in
    elim c.if-is_accepted.branch [
      | then-is_accepted w ↦ record {
        one_each = ap vec_len w.txs-is ∙ c.loop-place.invariant.one_each;
        keeps =
            rw (w.txs-is, w.kept-is) (kept_more keeps w.index.result.now said inside w.index.ensures there
            (sym tells ∙ w.if-is_accepted.true));
      }
      | else-is_accepted w ↦ record {
        one_each = ap vec_len w.txs-is ∙ c.loop-place.invariant.one_each;
        keeps =
            rw (w.txs-is, w.kept-is) (left_out keeps said inside there (sym tells ∙ w.if-is_accepted.false));
      }
    ]
