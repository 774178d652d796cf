use Rattle.std.proofs.Common.{◌+◌, ◌*◌}
use Rattle.sx_state.proofs.account_sums.+fn-held_by-fork_mut+arg4+held_by.Given as goal

-- each call leaves the rest to one thread less
abbrev pub decreases-held_by : goal.decreases-held_by
decreases-held_by g l = 2 * l.threads

abbrev pub decreases-fork_mut+arg4 : goal.decreases-fork_mut+arg4
decreases-fork_mut+arg4 g l = 2 * l.others + 1
