use Rattle.sx_ledger.proofs.FirstRefusals.{none_refused, one_refusal}
use Rattle.sx_ledger.proofs.first_refusal.refusal_laws.Goals as goal

pub returns-clause-one : goal.returns-clause-one
returns-clause-one c = one_refusal

pub returns-clause-none : goal.returns-clause-none
returns-clause-none c = none_refused
