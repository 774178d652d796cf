use Rattle.sx_bytes.proofs.Parts.{decodes_only_encodings, decodes_every_encoding, is_injective, is_prefix_free}
use Rattle.sx_outcome.specs.OutcomeDecoding.{outcome_at}
use Rattle.sx_outcome.specs.Outcomes.{outcome_bytes, IsOutcome}
use Rattle.sx_outcome.proofs.OutcomeLaws.{outcome_takes, outcome_again, numbers_name}
use Rattle.sx_outcome.proofs.encoding_laws.outcome_laws.Goals as goal

pub returns-clause-decodes_only : goal.returns-clause-decodes_only
returns-clause-decodes_only c = decodes_only_encodings outcome_at outcome_bytes IsOutcome outcome_takes

pub returns-clause-decodes_every : goal.returns-clause-decodes_every
returns-clause-decodes_every c = decodes_every_encoding outcome_at outcome_bytes IsOutcome outcome_again

pub returns-clause-injective : goal.returns-clause-injective
returns-clause-injective c = is_injective outcome_at outcome_bytes IsOutcome outcome_again

pub returns-clause-prefix_free : goal.returns-clause-prefix_free
returns-clause-prefix_free c = is_prefix_free outcome_at outcome_bytes IsOutcome outcome_again

pub returns-clause-statics : goal.returns-clause-statics
returns-clause-statics c = numbers_name
