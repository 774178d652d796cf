use Rattle.sx_filter.proofs.Accepting.{kept_is_accepted}
use Rattle.sx_filter.proofs.Few.{kept_is_few}
use Rattle.sx_filter.proofs.KeptLaws.{covers_all, kept_is_admissible, kept_permuted, refused_are_nothing}
use Rattle.sx_filter.proofs.WholeBodies.{body_is_kept}
use Rattle.sx_filter.proofs.keeping_laws.kept_laws.Goals as goal

pub returns-clause-admissible : goal.returns-clause-admissible
returns-clause-admissible c = kept_is_admissible

pub returns-clause-whole : goal.returns-clause-whole
returns-clause-whole c = body_is_kept

pub returns-clause-permuted : goal.returns-clause-permuted
returns-clause-permuted c = kept_permuted

pub returns-clause-accepted : goal.returns-clause-accepted
returns-clause-accepted c = kept_is_accepted

pub returns-clause-covers_all : goal.returns-clause-covers_all
returns-clause-covers_all c = covers_all

pub returns-clause-refused : goal.returns-clause-refused
returns-clause-refused c = refused_are_nothing

pub returns-clause-few : goal.returns-clause-few
returns-clause-few c = kept_is_few
