use Rattle.sx_bytes.proofs.Parts.{decodes_only_encodings, decodes_every_encoding, is_injective, is_prefix_free}
use Rattle.sx_outcome.specs.ScriptDecoding.{script_fields_at}
use Rattle.sx_outcome.specs.Scripts.{script_bytes, IsScript}
use Rattle.sx_outcome.proofs.ScriptLaws.{script_takes, script_again, scripts_fit}
use Rattle.sx_outcome.proofs.ScriptFaults.{script_payload_within, script_within}
use Rattle.sx_outcome.proofs.encoding_laws.script_laws.Goals as goal

pub returns-clause-decodes_only : goal.returns-clause-decodes_only
returns-clause-decodes_only c = decodes_only_encodings script_fields_at script_bytes IsScript script_takes

pub returns-clause-decodes_every : goal.returns-clause-decodes_every
returns-clause-decodes_every c = decodes_every_encoding script_fields_at script_bytes IsScript script_again

pub returns-clause-injective : goal.returns-clause-injective
returns-clause-injective c = is_injective script_fields_at script_bytes IsScript script_again

pub returns-clause-prefix_free : goal.returns-clause-prefix_free
returns-clause-prefix_free c = is_prefix_free script_fields_at script_bytes IsScript script_again

pub returns-clause-fits : goal.returns-clause-fits
returns-clause-fits c = scripts_fit

pub returns-clause-within : goal.returns-clause-within
returns-clause-within c = script_within

pub returns-clause-payload_within : goal.returns-clause-payload_within
returns-clause-payload_within c = script_payload_within
