use Rattle.std.proofs.Common.{◌≡◌, length}
use Rattle.std.specs.Prelude.{vec_len}
use Rattle.sx_gather.proofs.Keeping.{KeepsInPlace}
use Rattle.sx_gather.proofs.seal.accepted.Given as goal

abbrev pub invariant-loop-place : goal.invariant-loop-place
invariant-loop-place l = record {
  one_each : vec_len l.txs ≡ length l.outcomes;
  keeps : KeepsInPlace l.fn.candidates l.outcomes l.txs.items l.kept l.place;
}
