use Rattle.std.proofs.Common.{◌≡◌, ◌*◌, ◌^◌, ◌≤◌}
use Rattle.std.specs.Prelude.{if◌then◌else◌}
use Rattle.sx_dual.specs.Cuts.{goes_in, goes_out}
use Rattle.sx_dual.specs.Sums.{between, sum_below}
use Rattle.sx_dual.specs.Tables.{high_of, low_of}
use Rattle.sx_dual.proofs.cutting.crossing_of.Given as goal

abbrev pub invariant-loop-sell : goal.invariant-loop-sell
invariant-loop-sell l = record {
  into_sum : l.into ≡ sum_below l.sell
      (λ sell. sum_below l.bounds.assets
      (λ buy. between (λ s b. if goes_in l.cut.0 s b then low_of l.bounds s b else 0) sell buy));
  out_sum : l.out ≡ sum_below l.sell
      (λ sell. sum_below l.bounds.assets
      (λ buy. between (λ s b. if goes_out l.cut.0 s b then high_of l.bounds s b else 0) sell buy));
  into_bound : l.into ≤ l.sell * (32 * 2 ^ 102);
  out_bound : l.out ≤ l.sell * (32 * 2 ^ 102);
}
