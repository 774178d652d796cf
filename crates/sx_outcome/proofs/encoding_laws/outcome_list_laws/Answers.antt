use Rattle.sx_bytes.proofs.Parts.{decodes_only_encodings, decodes_every_encoding, is_injective, is_prefix_free}
use Rattle.sx_outcome.specs.OutcomeDecoding.{outcome_list_at}
use Rattle.sx_outcome.specs.Outcomes.{outcomes_bytes, AreOutcomes}
use Rattle.sx_outcome.proofs.OutcomeListLaws.{list_takes, list_again, outcomes_fit}
use Rattle.sx_outcome.proofs.OutcomeFaults.{outcome_payload_within, outcomes_within}
use Rattle.sx_outcome.proofs.encoding_laws.outcome_list_laws.Goals as goal

pub returns-clause-decodes_only : goal.returns-clause-decodes_only
returns-clause-decodes_only c = decodes_only_encodings outcome_list_at outcomes_bytes AreOutcomes list_takes

pub returns-clause-decodes_every : goal.returns-clause-decodes_every
returns-clause-decodes_every c = decodes_every_encoding outcome_list_at outcomes_bytes AreOutcomes list_again

pub returns-clause-injective : goal.returns-clause-injective
returns-clause-injective c = is_injective outcome_list_at outcomes_bytes AreOutcomes list_again

pub returns-clause-prefix_free : goal.returns-clause-prefix_free
returns-clause-prefix_free c = is_prefix_free outcome_list_at outcomes_bytes AreOutcomes list_again

pub returns-clause-fits : goal.returns-clause-fits
returns-clause-fits c = outcomes_fit

pub returns-clause-within : goal.returns-clause-within
returns-clause-within c = outcomes_within

pub returns-clause-payload_within : goal.returns-clause-payload_within
returns-clause-payload_within c = outcome_payload_within
