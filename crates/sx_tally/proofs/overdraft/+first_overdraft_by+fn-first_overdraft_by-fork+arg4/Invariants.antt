use Rattle.std.proofs.Common.{◌+◌, ◌*◌}
use Rattle.sx_tally.proofs.overdraft.+first_overdraft_by+fn-first_overdraft_by-fork+arg4.Given as goal

-- each call leaves the rest to one thread less
abbrev pub decreases-first_overdraft_by : goal.decreases-first_overdraft_by
decreases-first_overdraft_by g l = 2 * l.threads

abbrev pub decreases-fork+arg4 : goal.decreases-fork+arg4
decreases-fork+arg4 g l = 2 * l.others + 1
