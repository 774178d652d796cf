use Rattle.std.proofs.Common.{ℕ, ◌+◌, ◌-◌, List, ◌++◌, take, drop, sym, ap, ap₂, ◌∙◌, arith}
use Rattle.std.specs.List.{flat_map}
use Rattle.sx_digests.proofs.body_writing.write_and_hash.Goals as goal
use Rattle.sx_digests.proofs.InPieces.{up_to}
use Rattle.sx_tx.specs.Transactions.{tx_bytes}

pub loop-done-preserved : goal.loop-done-preserved
loop-done-preserved g c =
    let kept = c.loop-done.invariant in
    let done = c.loop-done.done in
    let count = c.min-count.result in
    let written = c.in_ok-write_beside.ensures in
    let hashed = kept.hashed.0 in
    let txs = c.args.txs.now in
    let added = flat_map tx_bytes (take (done + count - done) (drop done txs)) in
    record {
      within = omega (arith, c.min-count.ensures, kept.within);
      list = written.list ∙ ap (λ (text : List ℕ). text ++ added) kept.list
          ∙ up_to tx_bytes txs c.args.list.now done (done + count) (omega arith);
      hashed = (
        hashed ++ c.loop-done.before,
        c.write_beside.ensures.hashed hashed kept.hashed.1,
        ap₂ (λ (first second : List ℕ). first ++ second) kept.hashed.2 (c.swap.ensures.x_after ∙ written.piece)
            ∙ sym written.list,
      );
    }
