use Rattle.std.proofs.Common.{ℕ, arith}
use Rattle.std.specs.Prelude.{if◌then◌else◌}
use Rattle.sx_dual.specs.Cuts.{goes_in, goes_out}
use Rattle.sx_dual.specs.Sums.{between}
use Rattle.sx_dual.specs.Tables.{high_of, low_of}
use Rattle.sx_dual.proofs.Steps.{sum_more, sum_none}
use Rattle.sx_dual.proofs.cutting.crossing_from.Goals as goal

pub loop-buy-init : goal.loop-buy-init
loop-buy-init c = record {
  into_sum = sum_none (λ buy. between (λ s b. if goes_in c.args.cut.0 s b then low_of c.args.bounds.now s b else 0)
      c.args.sell buy);
  out_sum = sum_none (λ buy. between (λ s b. if goes_out c.args.cut.0 s b then high_of c.args.bounds.now s b else 0)
      c.args.sell buy);
  into_bound = omega arith;
  out_bound = omega arith;
}

pub loop-buy-preserved : goal.loop-buy-preserved
loop-buy-preserved c =
    let into = λ (buy : ℕ). between (λ s b. if goes_in c.args.cut.0 s b then low_of c.args.bounds.now s b else 0)
    c.args.sell buy in
    let out = λ (buy : ℕ). between (λ s b. if goes_out c.args.cut.0 s b then high_of c.args.bounds.now s b else 0)
    c.args.sell buy in
    let pair = c.crossing_at-pair in
    record {
      into_sum = sum_more c.loop-buy.buy into c.loop-buy.into pair.result.into c.loop-buy.invariant.into_sum
          (rw c.asset_of.ensures at pair.ensures.into);
      out_sum = sum_more c.loop-buy.buy out c.loop-buy.out pair.result.out c.loop-buy.invariant.out_sum
          (rw c.asset_of.ensures at pair.ensures.out);
      into_bound = omega arith;
      out_bound = omega arith;
    }
