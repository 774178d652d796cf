use Rattle.std.proofs.Common.{◌+◌, ◌*◌}
use Rattle.sx_outcome.proofs.order.+fn-sort_by_halves-fork_mut+arg3+fn-sort_by_halves-fork_mut+arg4+sort_by_halves.Given as goal

-- a thread of its own sorts each side by fewer threads
abbrev pub decreases-fork_mut+arg3 : goal.decreases-fork_mut+arg3
decreases-fork_mut+arg3 g l = 2 * l.half + 1

abbrev pub decreases-fork_mut+arg4 : goal.decreases-fork_mut+arg4
decreases-fork_mut+arg4 g l = 2 * l.other_half + 1

abbrev pub decreases-sort_by_halves : goal.decreases-sort_by_halves
decreases-sort_by_halves g l = 2 * l.threads
