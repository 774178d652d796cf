use Rattle.std.proofs.Common.{List, [], ◌∷◌, ◌++◌, ap, arith, length, length-append, subst, sym}
use Rattle.sx_filter.specs.Sifted.{IsSifted, TxVec}
use Rattle.sx_filter.specs.declared.sift.sifting.Sifted.{Sifted}
use Rattle.sx_filter.proofs.Pairs.{ArePairs, one_pair_more}
use Rattle.sx_filter.proofs.joining.each_sifted.Goals as goal

pub loop-txs-preserved : goal.loop-txs-preserved
loop-txs-preserved c =
    let yielded = c.loop-txs.yielded in
    let all = c.loop-txs.all.items in
    let txs = c.in-Some.txs in
    let one = c.in_ok-sift.field-0 in
    let grown = c.in_ok-push.ensures.items in
    let inv = c.loop-txs.invariant in
    record {
      one_each = omega (
        arith,
        ap length grown,
        length-append all (one ∷ []),
        length-append yielded (txs ∷ []),
        inv.one_each,
      );
      each = subst (ArePairs (λ (t : TxVec) (s : Sifted). IsSifted c.args.ledger.now t.items s) (yielded ++ txs ∷ []))
          (sym {A = List Sifted} grown)
          (one_pair_more (λ (t : TxVec) (s : Sifted). IsSifted c.args.ledger.now t.items s) yielded all txs one
          inv.one_each inv.each c.in_ok-sift.ensures);
    }
