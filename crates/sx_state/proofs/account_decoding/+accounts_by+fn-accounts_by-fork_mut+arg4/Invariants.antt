use Rattle.std.proofs.Common.{◌+◌, ◌*◌}
use Rattle.sx_state.proofs.account_decoding.+accounts_by+fn-accounts_by-fork_mut+arg4.Given as goal

-- each call leaves the rest to one thread less
abbrev pub decreases-accounts_by : goal.decreases-accounts_by
decreases-accounts_by g l = 2 * l.threads

abbrev pub decreases-fork_mut+arg4 : goal.decreases-fork_mut+arg4
decreases-fork_mut+arg4 g l = 2 * l.others + 1
