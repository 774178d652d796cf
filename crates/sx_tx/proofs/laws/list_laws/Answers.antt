use Rattle.sx_bytes.proofs.Parts.{decodes_only_encodings, decodes_every_encoding, is_injective, is_prefix_free}
use Rattle.sx_tx.specs.Transactions.{list_bytes, IsTxList}
use Rattle.sx_tx.specs.TransactionDecoding.{list_at}
use Rattle.sx_tx.proofs.ListLaws.{list_takes, list_again, fits_record}
use Rattle.sx_tx.proofs.FaultPlaces.{list_within, candidates_within}
use Rattle.sx_tx.proofs.laws.list_laws.Goals as goal

pub returns-clause-decodes_only : goal.returns-clause-decodes_only
returns-clause-decodes_only c = decodes_only_encodings list_at list_bytes IsTxList list_takes

pub returns-clause-decodes_every : goal.returns-clause-decodes_every
returns-clause-decodes_every c = decodes_every_encoding list_at list_bytes IsTxList list_again

pub returns-clause-injective : goal.returns-clause-injective
returns-clause-injective c = is_injective list_at list_bytes IsTxList list_again

pub returns-clause-prefix_free : goal.returns-clause-prefix_free
returns-clause-prefix_free c = is_prefix_free list_at list_bytes IsTxList list_again

pub returns-clause-fits : goal.returns-clause-fits
returns-clause-fits c = fits_record

pub returns-clause-within : goal.returns-clause-within
returns-clause-within c = list_within

pub returns-clause-payload_within : goal.returns-clause-payload_within
returns-clause-payload_within c = candidates_within
