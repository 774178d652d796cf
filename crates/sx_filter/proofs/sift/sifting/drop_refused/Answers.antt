use Rattle.std.proofs.Common.{rules, ◌≡◌, ◌<◌, true, false, length, ap, ◌∙◌, arith}
use Rattle.std.specs.Prelude.{vec_len}
use Rattle.std.proofs.lemmas.List.Filters.{FiltersInPlace-more_no, FiltersInPlace-more_set}
use Rattle.sx_filter.specs.Kept.{passes}
use Rattle.sx_filter.proofs.sift.sifting.drop_refused.Goals as goal
use Rattle.sx_filter.proofs.sift.sifting.drop_refused.Goals.{in-Ok, in_default}

pub loop-place-preserved : goal.loop-place-preserved
loop-place-preserved c =
    let parts = c.args.ledger.now in
    let place = c.loop-place.place in
    let tx = c.index.result.now in
    let inv = c.loop-place.invariant in
    let inside : place < length c.loop-place.txs.items =
    omega (arith, c.loop-place-test.true, inv.long, c.loop-place.txs.ok) in
    elim c.match-places_of.branch [
      | in-Ok w ↦
          let passed : passes parts tx ≡ true = search rules in
          record {
            behind = omega (arith, w.kept-is, inv.behind);
            long = ap vec_len w.txs-is ∙ inv.long;
            chosen = rw (w.txs-is, w.kept-is) (FiltersInPlace-more_set inv.chosen inside passed c.index.ensures);
          }
      | in_default w ↦
          let failed : passes parts tx ≡ false = search rules in
          record {
            behind = omega (arith, w.kept-is, inv.behind);
            long = ap vec_len w.txs-is ∙ inv.long;
            chosen = rw (w.txs-is, w.kept-is) (FiltersInPlace-more_no inv.chosen inside failed c.index.ensures);
          }
    ]
