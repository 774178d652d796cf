use Rattle.std.proofs.Common.{◌∙◌, arith, length-drop}
use Rattle.std.proofs.lemmas.List.{take_rest}
use Rattle.sx_base.proofs.SoFar.{ends_here, filled_more, steady_more}
use Rattle.sx_base.proofs.exact.take_exact.Goals as goal

pub returns-then-n-eq0-clause-ended : goal.returns-then-n-eq0-clause-ended
returns-then-n-eq0-clause-ended g c =
    ends_here _ _ _ _ _ _ _ (omega arith) c.loop-got.auto.into c.loop-got.invariant.filled
    (rw c.if-n-eq0.true at c.in-Ok.ensures.taken)

pub loop-got-preserved : goal.loop-got-preserved
loop-got-preserved g c = record {
  within = omega (arith, rw take_rest at c.in-Ok.ensures.within, length-drop c.loop-got.got c.loop-got.into);
  kept = c.in-Ok.ensures.kept ∙ c.loop-got.invariant.kept;
  steady = steady_more _ _ _ _ _ c.loop-got.invariant.kept c.loop-got.invariant.steady c.in-Ok.ensures.steady;
  rises = omega (arith, c.loop-got.invariant.rises, c.in-Ok.ensures.falls_never);
  filled =
      filled_more _ _ _ _ _ _ _ _ c.loop-got.invariant.within c.loop-got.invariant.filled c.in-Ok.ensures.taken;
}
