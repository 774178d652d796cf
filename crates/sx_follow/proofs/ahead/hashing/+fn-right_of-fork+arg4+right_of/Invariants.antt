use Rattle.std.proofs.Common.{◌+◌, ◌*◌}
use Rattle.sx_follow.proofs.ahead.hashing.+fn-right_of-fork+arg4+right_of.Given as goal

-- each call leaves the rest to one thread less
abbrev pub decreases-right_of : goal.decreases-right_of
decreases-right_of g l = 2 * l.threads

abbrev pub decreases-fork+arg4 : goal.decreases-fork+arg4
decreases-fork+arg4 g l = 2 * l.others + 1
