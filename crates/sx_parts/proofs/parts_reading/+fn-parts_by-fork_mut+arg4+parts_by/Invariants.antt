use Rattle.std.proofs.Common.{◌+◌, ◌*◌}
use Rattle.sx_parts.proofs.parts_reading.+fn-parts_by-fork_mut+arg4+parts_by.Given as goal

-- each call leaves the rest to one thread less
abbrev pub decreases-parts_by : goal.decreases-parts_by
decreases-parts_by g l = 2 * l.threads

abbrev pub decreases-fork_mut+arg4 : goal.decreases-fork_mut+arg4
decreases-fork_mut+arg4 g l = 2 * l.others + 1
