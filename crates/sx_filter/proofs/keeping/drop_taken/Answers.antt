use Rattle.std.proofs.Common.{◌≡◌, ◌<◌, List, length, ap, sym, ◌∙◌, arith}
use Rattle.std.specs.Prelude.{vec_len, not}
use Rattle.std.proofs.lemmas.List.Filters.{FiltersInPlace-more_here, FiltersInPlace-more_no, FiltersInPlace-more_set}
use Rattle.sx_filter.specs.Alone.{is_new}
use Rattle.sx_filter.specs.Named.{AreIds}
use Rattle.sx_filter.proofs.keeping.drop_taken.Goals as goal
use Rattle.sx_filter.proofs.keeping.drop_taken.Goals.{then-not-is_id_taken, then-kept-place, else-kept-place}
use Rattle.sx_filter.proofs.keeping.drop_taken.Goals.{else-not-is_id_taken}
use Rattle.sx_tx.specs.declared.tx.Tx.{Tx}

pub loop-place-preserved : goal.loop-place-preserved
loop-place-preserved c =
    let place = c.loop-place.place in
    let inv = c.loop-place.invariant in
    let tx = c.index.result.now in
    let inside : place < length c.loop-place.txs.items =
    omega (arith, c.loop-place-test.true, inv.long, c.loop-place.txs.ok) in
    let told : (passed : List Tx) → AreIds passed c.args.ids.now → is_new passed tx ≡ not c.is_id_taken.result =
    λ passed are. ap not (sym (c.is_id_taken.ensures passed are)) in
    elim c.if-not-is_id_taken.branch [
      | then-not-is_id_taken w ↦
          elim w.if-kept-place.branch [
            | then-kept-place v ↦ record {
              behind = omega (arith, w.kept-is, inv.behind);
              long = ap vec_len (w.txs-is ∙ v.txs-is) ∙ inv.long;
              chosen = λ passed are.
                  rw (w.txs-is, v.txs-is, w.kept-is) (FiltersInPlace-more_set (inv.chosen passed are) inside
                  (told passed are ∙ ap not w.if-not-is_id_taken.true) c.index.ensures);
            }
            | else-kept-place v ↦ record {
              behind = omega (arith, w.kept-is, inv.behind);
              long = ap vec_len (w.txs-is ∙ v.txs-is) ∙ inv.long;
              chosen = λ passed are.
                  rw (w.txs-is, v.txs-is, w.kept-is) (FiltersInPlace-more_here (inv.chosen passed are) inside
                  (told passed are ∙ ap not w.if-not-is_id_taken.true) c.index.ensures
                  (omega (arith, v.if-kept-place.false, inv.behind)));
            }
          ]
      | else-not-is_id_taken w ↦ record {
        behind = omega (arith, w.kept-is, inv.behind);
        long = ap vec_len w.txs-is ∙ inv.long;
        chosen = λ passed are.
            rw (w.txs-is, w.kept-is) (FiltersInPlace-more_no (inv.chosen passed are) inside
            (told passed are ∙ ap not w.if-not-is_id_taken.false) c.index.ensures);
      }
    ]
