use Rattle.std.proofs.Common.{arith}
use Rattle.sx_curve.proofs.Building.{built_none}
use Rattle.sx_curve.proofs.curves_builder.CurvesBuilder.new.Goals as goal

pub invariant_of-result : goal.invariant_of-result
invariant_of-result c =
    let begins = c.in_ok-vec.field-0 in
    rw c.in_ok-with_capacity.ensures.items
    (built_none begins.items (omega (arith, begins.ok, c.in_ok-vec.ensures.len)))
