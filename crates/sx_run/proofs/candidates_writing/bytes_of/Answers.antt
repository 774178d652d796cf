use Rattle.std.proofs.Common.{length, ap, arith}
use Rattle.sx_run.proofs.PartLists.{left, none}
use Rattle.sx_run.proofs.candidates_writing.bytes_of.Goals as goal

pub overflow_add-size : goal.overflow_add-size
overflow_add-size c =
    let lists = c.args.told.now in
    let less = left lists c.loop-one.one-index c.one-item.result c.loop-one-test.true c.one-item.is in
    let same = ap length c.bytes.ensures in
    omega (arith, less, same, c.loop-one.invariant, c.requires)

pub loop-one-preserved : goal.loop-one-preserved
loop-one-preserved c =
    let lists = c.args.told.now in
    let less = left lists c.loop-one.one-index c.one-item.result c.loop-one-test.true c.one-item.is in
    let same = ap length c.bytes.ensures in
    omega (arith, less, same, c.loop-one.invariant)

pub returns : goal.returns
returns c =
    let lists = c.args.told.now in
    omega (arith, none lists c.loop-one.one-index (omega (arith, c.loop-one-test.false)), c.loop-one.invariant)
