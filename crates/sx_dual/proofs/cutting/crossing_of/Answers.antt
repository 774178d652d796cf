use Rattle.std.proofs.Common.{ℕ, arith}
use Rattle.std.specs.Prelude.{if◌then◌else◌}
use Rattle.sx_dual.specs.Cuts.{goes_in, goes_out}
use Rattle.sx_dual.specs.Sums.{between, sum_below}
use Rattle.sx_dual.specs.Tables.{high_of, low_of}
use Rattle.sx_dual.proofs.Steps.{sum_more, sum_none}
use Rattle.sx_dual.proofs.cutting.crossing_of.Goals as goal

pub loop-sell-init : goal.loop-sell-init
loop-sell-init c = record {
  into_sum = sum_none (λ sell. sum_below c.args.bounds.now.assets
      (λ buy. between (λ s b. if goes_in c.args.cut.0 s b then low_of c.args.bounds.now s b else 0) sell buy));
  out_sum = sum_none (λ sell. sum_below c.args.bounds.now.assets
      (λ buy. between (λ s b. if goes_out c.args.cut.0 s b then high_of c.args.bounds.now s b else 0) sell buy));
  into_bound = omega arith;
  out_bound = omega arith;
}

pub loop-sell-preserved : goal.loop-sell-preserved
loop-sell-preserved c =
    let n = c.args.bounds.now.assets in
    let into = λ (sell : ℕ). sum_below n
    (λ buy. between (λ s b. if goes_in c.args.cut.0 s b then low_of c.args.bounds.now s b else 0) sell buy) in
    let out = λ (sell : ℕ). sum_below n
    (λ buy. between (λ s b. if goes_out c.args.cut.0 s b then high_of c.args.bounds.now s b else 0) sell buy) in
    let row = c.crossing_from-row in
    record {
      into_sum = sum_more c.loop-sell.sell into c.loop-sell.into row.result.into c.loop-sell.invariant.into_sum
          (rw c.asset_of.ensures at row.ensures.into);
      out_sum = sum_more c.loop-sell.sell out c.loop-sell.out row.result.out c.loop-sell.invariant.out_sum
          (rw c.asset_of.ensures at row.ensures.out);
      into_bound = omega arith;
      out_bound = omega arith;
    }
