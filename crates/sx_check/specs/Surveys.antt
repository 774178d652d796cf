-- What is found of the transactions of a block before its header is looked at.
use Rattle.std.specs.Prelude.{List, Result, IfErr, IfOk}
use Rattle.sx_apply.specs.Effects.{IsChangeTo}
use Rattle.sx_tally.specs.declared.prechecking.PrecheckFault.{PrecheckFault}
use Rattle.sx_tally.specs.Prechecks.{IsPrecheckFault}
use Rattle.sx_tally.specs.Tally.{IsTally}
use Rattle.sx_check.specs.declared.survey.Survey.{Survey}
use Rattle.sx_ledger.specs.declared.parts.Parts.{Parts}
use Rattle.sx_tx.specs.declared.tx.Tx.{Tx}

-- what transactions do to a ledger that refuses none of them by itself, and what they change the offers to
pub record IsSurvey (parts : Parts) (txs : List Tx) (found : Survey) : Type 0 where
  pub tally : IsTally parts txs found.tally
  pub offers : IsChangeTo parts found.tally found.offers

-- the survey, or why there is none
pub record IsSurveyed (parts : Parts) (txs : List Tx) (found : Result Survey PrecheckFault) : Type 0 where
  pub survey : IfOk found (IsSurvey parts txs)
  pub refused : IfErr found (IsPrecheckFault parts txs)
