use Rattle.std.proofs.Common.{◌+◌, ◌*◌}
use Rattle.sx_spread.proofs.paying.+fn-pay_parts-fork_mut+arg4+pay_parts.Given as goal

abbrev pub decreases-fork_mut+arg4 : goal.decreases-fork_mut+arg4
decreases-fork_mut+arg4 g l = 2 * l.others + 1

abbrev pub decreases-pay_parts : goal.decreases-pay_parts
decreases-pay_parts g l = 2 * l.threads
