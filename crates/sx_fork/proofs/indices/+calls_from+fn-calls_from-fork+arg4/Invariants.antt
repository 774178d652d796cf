use Rattle.std.proofs.Common.{◌+◌, ◌*◌}
use Rattle.sx_fork.proofs.indices.+calls_from+fn-calls_from-fork+arg4.Given as goal

abbrev pub decreases-calls_from : goal.decreases-calls_from
decreases-calls_from g l = 2 * l.count

abbrev pub decreases-fork+arg4 : goal.decreases-fork+arg4
decreases-fork+arg4 g l = 2 * l.others + 1
