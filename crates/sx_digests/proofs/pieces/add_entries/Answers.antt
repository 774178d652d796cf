use Rattle.std.proofs.Common.{ℕ, ◌+◌, List, ◌++◌, take, subst, arith}
use Rattle.std.specs.List.{flat_map}
use Rattle.sha2.specs.Hashers.{Holds256}
use Rattle.sx_digests.proofs.InPieces.{up_to}
use Rattle.sx_digests.proofs.pieces.add_entries.Goals as goal

pub loop-done-preserved : goal.loop-done-preserved
loop-done-preserved g c =
    let encode = g.E.Encoder.encode c.args.encoder.now in
    let entries = c.args.entries.now in
    let done = c.loop-done.done in
    let count = c.min-count.result in
    record {
      within = omega (arith, c.min-count.ensures, c.loop-done.invariant.within);
      holds = λ (m : List ℕ). λ (h : Holds256 c.args.hasher.now m).
          subst (λ (text : List ℕ). Holds256 c.add_piece.new.hasher text)
          (up_to encode entries m done (done + count) (omega arith))
          (c.in_ok-add_piece.ensures.hashed (m ++ flat_map encode (take done entries))
          (c.loop-done.invariant.holds m h));
      emptied = c.in_ok-add_piece.ensures.emptied;
    }
