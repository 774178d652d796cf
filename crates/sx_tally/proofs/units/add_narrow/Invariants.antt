use Rattle.std.proofs.Common.{◌≡◌, ◌+◌, ◌<◌, ℕ, length, take}
use Rattle.std.specs.Prelude.{slice_index}
use Rattle.sx_tally.specs.Sums.{units_to}
use Rattle.sx_tally.proofs.units.add_narrow.Given as goal

abbrev pub invariant-loop-k : goal.invariant-loop-k
invariant-loop-k l = record {
  as_many : length l.sums ≡ length l.fn.sums;
  each : (at : ℕ) → at < length l.fn.sums
      → slice_index l.sums at ≡ slice_index l.fn.sums at + units_to (take l.k l.entries) (take l.k l.rows) at;
}
