use Rattle.std.proofs.Common.{◌+◌, ◌*◌}
use Rattle.sx_parts.proofs.reading_in_parts.+fill_by+fn-fill_by-fork_mut+arg4.Given as goal

-- each call leaves the rest to one thread less
abbrev pub decreases-fill_by : goal.decreases-fill_by
decreases-fill_by g l = 2 * l.threads

abbrev pub decreases-fork_mut+arg4 : goal.decreases-fork_mut+arg4
decreases-fork_mut+arg4 g l = 2 * l.others + 1
