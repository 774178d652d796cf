use Rattle.std.proofs.Common.{◌+◌, ◌*◌}
use Rattle.sx_tally.proofs.lookup.+fn-look_up_by-fork_mut+arg4+look_up_by.Given as goal

-- each call leaves the rest to one thread less
abbrev pub decreases-look_up_by : goal.decreases-look_up_by
decreases-look_up_by g l = 2 * l.threads

abbrev pub decreases-fork_mut+arg4 : goal.decreases-fork_mut+arg4
decreases-fork_mut+arg4 g l = 2 * l.others + 1
