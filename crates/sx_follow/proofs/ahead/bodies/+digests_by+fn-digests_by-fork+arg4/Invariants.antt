use Rattle.std.proofs.Common.{◌+◌, ◌*◌}
use Rattle.sx_follow.proofs.ahead.bodies.+digests_by+fn-digests_by-fork+arg4.Given as goal

-- each call leaves the rest to one thread less
abbrev pub decreases-digests_by : goal.decreases-digests_by
decreases-digests_by g l = 2 * l.threads

abbrev pub decreases-fork+arg4 : goal.decreases-fork+arg4
decreases-fork+arg4 g l = 2 * l.others + 1
