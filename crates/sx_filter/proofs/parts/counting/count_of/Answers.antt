use Rattle.std.proofs.Common.{length, ap, arith}
use Rattle.sx_filter.proofs.Joined.{no_longer}
use Rattle.sx_filter.proofs.parts.counting.count_of.Goals as goal

pub overflow_add-count : goal.overflow_add-count
overflow_add-count c =
    let few =
    no_longer c.args.lists.now c.loop-list.list-index c.list-item.result c.loop-list-test.true c.list-item.is in
    omega (arith, few, ap length c.items.ensures, c.loop-list.invariant, c.requires)
