use Rattle.std.proofs.Common.{◌+◌, ◌*◌}
use Rattle.sx_text.proofs.spreading.+fn-put_by-fork_mut+arg4+put_by.Given as goal

-- each call leaves the rest to one thread less
abbrev pub decreases-put_by : goal.decreases-put_by
decreases-put_by g l = 2 * l.threads

abbrev pub decreases-fork_mut+arg4 : goal.decreases-fork_mut+arg4
decreases-fork_mut+arg4 g l = 2 * l.others + 1
