use Rattle.std.proofs.Common.{◌∙◌, arith, length-drop}
use Rattle.std.proofs.lemmas.List.{take_rest}
use Rattle.sx_base.proofs.SoFar.{steady_more, written_more}
use Rattle.sx_base.proofs.exact.put_all.Goals as goal

pub loop-done-preserved : goal.loop-done-preserved
loop-done-preserved g c = record {
  within = omega (arith, rw take_rest at c.in_ok-done.ensures.within, length-drop c.loop-done.done c.args.bytes.now);
  kept = c.in_ok-done.ensures.kept ∙ c.loop-done.invariant.kept;
  steady = steady_more _ _ _ _ _ c.loop-done.invariant.kept c.loop-done.invariant.steady c.in_ok-done.ensures.steady;
  rises = omega (arith, c.loop-done.invariant.rises, c.in_ok-done.ensures.falls_never);
  written = written_more _ _ _ _ _ _ c.loop-done.invariant.written (rw take_rest at c.in_ok-done.ensures.appended);
}
