use Rattle.std.proofs.Common.{◌≡◌, ℕ, List, get_or, replicate, subst, ap, ◌∙◌, arith, rules}
use Rattle.std.proofs.lemmas.Option.{slice_get_within}
use Rattle.sx_tally.specs.Postings.{HasRows}
use Rattle.sx_ledger.specs.Repeats.{cancels}
use Rattle.sx_tally.proofs.Entered.{no_repeat, zero_at}
use Rattle.sx_tally.proofs.tally.Tally.none.Goals as goal
use Rattle.sx_ledger.specs.Ledger.{assets_of}

pub returns : goal.returns
returns c =
    let parts = c.args.ledger.now in
    let zero = c.in_ok-zero.ensures in
    let many = c.accounts-places.ensures.number in
    let wide = c.assets.ensures.number in
    let maps = c.in_ok-vec.field-0.items in
    let zeros : maps ≡ replicate c.accounts-places.result 0 =
    c.in_ok-vec.ensures.items_if_clones_equal (λ x e. e) in
    record {
      nothing = record {
        shape = record {
          rows = subst (λ (n : ℕ). HasRows c.in_ok-zero.field-0 n (assets_of parts)) many
              (subst (λ (w : ℕ). HasRows c.in_ok-zero.field-0 c.accounts-places.result w) wide zero.rows);
          maps = search rules;
          flags = c.in_ok-none.ensures.as_many ∙ c.offers.ensures.number;
        };
        passes = λ k d lt. absurd (omega arith);
        in_range = λ k d lt. absurd (omega arith);
        postings = record {
          debits = λ p account x there lt. zero.debits p x (omega arith);
          credits = λ p account x there lt. zero.credits p x (omega arith);
        };
        used = λ p account there.
            ap (λ (xs : List ℕ). get_or xs p 0) zeros ∙ zero_at c.accounts-places.result p;
        cancelled = record {
          flags = λ p offer there. c.in_ok-none.ensures.unset p
              (omega (arith, slice_get_within parts.offers p offer there, c.offers.ensures.number));
          again = no_repeat cancels c.in_ok-none.field-0.again c.in_ok-none.ensures.never;
        };
        created = c.none-2.ensures;
        made = c.new.ensures.items;
      };
      kept = c.offers.ensures.kept;
    }
