use Rattle.std.proofs.Common.{◌+◌, ◌*◌}
use Rattle.sx_state.proofs.offer_sums.+fn-sums_by-fork_mut+arg4+sums_by.Given as goal

-- each call leaves the rest to one thread less
abbrev pub decreases-sums_by : goal.decreases-sums_by
decreases-sums_by g l = 2 * l.threads

abbrev pub decreases-fork_mut+arg4 : goal.decreases-fork_mut+arg4
decreases-fork_mut+arg4 g l = 2 * l.others + 1
