use Rattle.std.proofs.Common.{◌+◌, ◌*◌}
use Rattle.sx_run.proofs.candidates_writing.+encoded_by+fn-encoded_by-fork+arg4.Given as goal

-- each call leaves the rest to one thread less
abbrev pub decreases-encoded_by : goal.decreases-encoded_by
decreases-encoded_by g l = 2 * l.threads

abbrev pub decreases-fork+arg4 : goal.decreases-fork+arg4
decreases-fork+arg4 g l = 2 * l.others + 1
