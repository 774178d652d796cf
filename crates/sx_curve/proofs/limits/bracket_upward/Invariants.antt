use Rattle.std.proofs.Common.{◌≡◌, ◌+◌, ◌-◌, ◌≤◌, true, length}
use Rattle.std.specs.List.{AllWithin}
use Rattle.sx_curve.specs.Curves.{is_point_below}
use Rattle.sx_curve.proofs.limits.bracket_upward.Given as goal

abbrev pub invariant-loop-step : goal.invariant-loop-step
invariant-loop-step l = record {
  some : 1 ≤ l.step;
  short : l.step ≤ l.low + 1;
  within : l.low ≤ length l.pair;
  below : AllWithin (λ point. is_point_below l.num l.den point ≡ true) l.pair 0 l.low;
}

abbrev pub decreases-loop-step : goal.decreases-loop-step
decreases-loop-step l = length l.pair - l.low
