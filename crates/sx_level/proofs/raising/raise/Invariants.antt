use Rattle.std.proofs.Common.{◌≡◌, ℕ, ◌+◌, ◌<◌, ◌≤◌}
use Rattle.std.specs.Prelude.{slice_index, if◌then◌else◌}
use Rattle.sx_dual.specs.Cuts.{is_in}
use Rattle.sx_level.proofs.raising.raise.Given as goal

abbrev pub invariant-loop-asset : goal.invariant-loop-asset
invariant-loop-asset l = record {
  done : (a : ℕ) → a < l.asset →
      slice_index l.heights a ≡ (if is_in l.set.0 a then 1 else 0) + slice_index l.initial.heights a;
  rest : (a : ℕ) → l.asset ≤ a → slice_index l.heights a ≡ slice_index l.initial.heights a;
}
