use Rattle.std.proofs.Common.{◌≡◌, ◌+◌, ◌≤◌, false, length}
use Rattle.std.specs.List.{AllWithin}
use Rattle.sx_curve.specs.Curves.{is_point_below}
use Rattle.sx_curve.proofs.limits.bracket_downward.Given as goal

abbrev pub invariant-loop-step : goal.invariant-loop-step
invariant-loop-step l = record {
  some : 1 ≤ l.step;
  short : l.high + l.step ≤ length l.pair + 1;
  above : AllWithin (λ point. is_point_below l.num l.den point ≡ false) l.pair l.high (length l.pair);
}

abbrev pub decreases-loop-step : goal.decreases-loop-step
decreases-loop-step l = l.high
