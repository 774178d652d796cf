use Rattle.std.proofs.Common.{◌<◌, Bool, false, length, sym, ap, ◌∙◌, arith}
use Rattle.std.specs.Prelude.{vec_len}
use Rattle.std.proofs.lemmas.List.Filters.{FiltersInPlace-more_here, FiltersInPlace-more_set}
use Rattle.sx_filter.proofs.Picking.{left_out, rest_at}
use Rattle.sx_filter.proofs.sift.fitting.keep.Goals as goal
use Rattle.sx_filter.proofs.sift.fitting.keep.Goals.{then-verdicts-place, else-verdicts-place, then-kept-place, else-kept-place}
use Rattle.sx_filter.specs.Verdicts.{AreVerdicts}
use Rattle.sx_tx.specs.declared.tx.Tx.{Tx}

pub loop-place-preserved : goal.loop-place-preserved
loop-place-preserved c =
    let place = c.loop-place.place in
    let inside : place < length c.loop-place.txs.items =
    omega (arith, c.loop-place-test.true, c.loop-place.invariant.one_each, c.loop-place.txs.ok) in
    elim c.if-verdicts-place.branch [
      | then-verdicts-place w ↦
          let passed = λ (passes : Tx → Bool) (are : AreVerdicts passes c.args.txs.now.items c.args.verdicts.now).
          let inv = c.loop-place.invariant.chosen passes are in
          let tx = w.index-tx.result.now in
          sym (are place false c.loop-place-test.true tx (rest_at inv tx inside w.index-tx.ensures))
          ∙ w.if-verdicts-place.true in
          elim w.if-kept-place.branch [
            | then-kept-place v ↦ record {
              behind = omega (arith, w.kept-is, c.loop-place.invariant.behind);
              one_each = ap vec_len (w.txs-is ∙ v.txs-is) ∙ c.loop-place.invariant.one_each;
              chosen = λ passes are.
                  rw (w.txs-is, v.txs-is, w.kept-is) (FiltersInPlace-more_set
                  (c.loop-place.invariant.chosen passes are) inside (passed passes are) w.index-tx.ensures);
            }
            | else-kept-place v ↦ record {
              behind = omega (arith, w.kept-is, c.loop-place.invariant.behind);
              one_each = ap vec_len (w.txs-is ∙ v.txs-is) ∙ c.loop-place.invariant.one_each;
              chosen = λ passes are.
                  rw (w.txs-is, v.txs-is, w.kept-is) (FiltersInPlace-more_here
                  (c.loop-place.invariant.chosen passes are) inside (passed passes are) w.index-tx.ensures
                  (omega (arith, v.if-kept-place.false, c.loop-place.invariant.behind)));
            }
          ]
      | else-verdicts-place w ↦ record {
        behind = omega (arith, w.kept-is, c.loop-place.invariant.behind);
        one_each = ap vec_len w.txs-is ∙ c.loop-place.invariant.one_each;
        chosen = λ passes are.
            rw (w.txs-is, w.kept-is) (left_out (c.loop-place.invariant.chosen passes are) inside
            (λ tx at. sym (are place false c.loop-place-test.true tx at) ∙ w.if-verdicts-place.false));
      }
    ]
