use Rattle.sx_multi.proofs.PostedLaws.{more_are_no_worse, one_is_usual, posted_is_best, posted_mends, posted_permuted}
use Rattle.sx_multi.proofs.laws.posted_laws.Goals as goal

pub returns-clause-best : goal.returns-clause-best
returns-clause-best c = posted_is_best

pub returns-clause-mends : goal.returns-clause-mends
returns-clause-mends c = posted_mends

pub returns-clause-one : goal.returns-clause-one
returns-clause-one c = one_is_usual

pub returns-clause-no_worse : goal.returns-clause-no_worse
returns-clause-no_worse c = more_are_no_worse

pub returns-clause-permuted : goal.returns-clause-permuted
returns-clause-permuted c = posted_permuted
