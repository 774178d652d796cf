use Rattle.sx_tx.proofs.UsedNumbers.{none_used, uses_both, used_stays_used, next_is_window}
use Rattle.sx_tx.proofs.WindowLaws.{next_is}
use Rattle.sx_tx.proofs.laws.window_laws.Goals as goal

pub returns-clause-highest : goal.returns-clause-highest
returns-clause-highest c = next_is

pub returns-clause-none : goal.returns-clause-none
returns-clause-none c = none_used

pub returns-clause-both : goal.returns-clause-both
returns-clause-both c = uses_both

pub returns-clause-stays : goal.returns-clause-stays
returns-clause-stays c = used_stays_used

pub returns-clause-keeps : goal.returns-clause-keeps
returns-clause-keeps c = next_is_window
