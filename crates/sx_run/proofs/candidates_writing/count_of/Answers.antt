use Rattle.std.proofs.Common.{length, ap, arith}
use Rattle.sx_run.proofs.PartLists.{left, none}
use Rattle.sx_run.proofs.candidates_writing.count_of.Goals as goal

pub overflow_add-count : goal.overflow_add-count
overflow_add-count c =
    let lists = c.args.parts.now in
    let less = left lists c.loop-part.part-index c.part-item.result c.loop-part-test.true c.part-item.is in
    let same = ap length c.items.ensures in
    omega (arith, less, same, c.loop-part.invariant, c.requires)

pub loop-part-preserved : goal.loop-part-preserved
loop-part-preserved c =
    let lists = c.args.parts.now in
    let less = left lists c.loop-part.part-index c.part-item.result c.loop-part-test.true c.part-item.is in
    let same = ap length c.items.ensures in
    omega (arith, less, same, c.loop-part.invariant)

pub returns : goal.returns
returns c =
    let lists = c.args.parts.now in
    omega (arith, none lists c.loop-part.part-index (omega (arith, c.loop-part-test.false)), c.loop-part.invariant)
