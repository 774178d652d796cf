use Rattle.std.proofs.Common.{◌+◌, ◌*◌}
use Rattle.sx_fork.proofs.each.+parts.Given as goal

abbrev pub decreases-by_parts : goal.decreases-by_parts
decreases-by_parts g l = 4 * l.threads

abbrev pub decreases-two_parts : goal.decreases-two_parts
decreases-two_parts g l = 4 * l.others + 2

abbrev pub decreases-two_parts-fork_mut+arg4 : goal.decreases-two_parts-fork_mut+arg4
decreases-two_parts-fork_mut+arg4 g l = 4 * l.others + 1
