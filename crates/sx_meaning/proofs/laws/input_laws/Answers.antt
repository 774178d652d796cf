use Rattle.sx_meaning.proofs.AnyWorkers.{demos_alike, filters_alike, seals_alike}
use Rattle.sx_meaning.proofs.Filtered.{filters_bodies}
use Rattle.sx_meaning.proofs.OneFinding.{finds_one}
use Rattle.sx_meaning.proofs.Outputs.{writes_one_text, writes_some_text}
use Rattle.sx_meaning.proofs.Proved.{proved_is_good}
use Rattle.sx_meaning.proofs.SomeFinding.{finds_some}
use Rattle.sx_meaning.proofs.laws.input_laws.Goals as goal

pub returns-clause-one : goal.returns-clause-one
returns-clause-one c = finds_one c.check_laws.ensures.one_reason c.check_laws.ensures.valid_is_not_refused

pub returns-clause-some : goal.returns-clause-some
returns-clause-some c = finds_some c.check_laws.ensures.judged c.block_effect_laws.ensures.ledger

pub returns-clause-one_output : goal.returns-clause-one_output
returns-clause-one_output c =
    writes_one_text c.check_laws.ensures.one_reason c.check_laws.ensures.valid_is_not_refused
    c.block_chain_laws.ensures.one

pub returns-clause-some_output : goal.returns-clause-some_output
returns-clause-some_output c = writes_some_text c.block_chain_laws.ensures.some

pub returns-clause-seals_alike : goal.returns-clause-seals_alike
returns-clause-seals_alike c = seals_alike

pub returns-clause-demos_alike : goal.returns-clause-demos_alike
returns-clause-demos_alike c = demos_alike

pub returns-clause-filters_alike : goal.returns-clause-filters_alike
returns-clause-filters_alike c = filters_alike

pub returns-clause-proved : goal.returns-clause-proved
returns-clause-proved c =
    proved_is_good c.commitment_laws.ensures.true_is_good c.commitment_laws.ensures.true_is_claim

pub returns-clause-filtered : goal.returns-clause-filtered
returns-clause-filtered c = filters_bodies c.kept_laws.ensures.admissible c.kept_laws.ensures.accepted
