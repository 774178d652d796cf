use Rattle.std.proofs.Common.{◌≡◌, ◌*◌, ◌^◌, ◌≤◌}
use Rattle.std.specs.Prelude.{if◌then◌else◌}
use Rattle.sx_dual.specs.Cuts.{goes_in, goes_out}
use Rattle.sx_dual.specs.Sums.{between, sum_below}
use Rattle.sx_dual.specs.Tables.{high_of, low_of}
use Rattle.sx_dual.proofs.cutting.crossing_from.Given as goal

abbrev pub invariant-loop-buy : goal.invariant-loop-buy
invariant-loop-buy l = record {
  into_sum : l.into ≡ sum_below l.buy
      (λ buy. between (λ s b. if goes_in l.cut.0 s b then low_of l.bounds s b else 0) l.sell buy);
  out_sum : l.out ≡ sum_below l.buy
      (λ buy. between (λ s b. if goes_out l.cut.0 s b then high_of l.bounds s b else 0) l.sell buy);
  into_bound : l.into ≤ l.buy * 2 ^ 102;
  out_bound : l.out ≤ l.buy * 2 ^ 102;
}
