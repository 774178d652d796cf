use Rattle.sx_bytes.proofs.Parts.{decodes_only_encodings, decodes_every_encoding, is_injective, is_prefix_free}
use Rattle.sx_tx.specs.Transactions.{tx_bytes, IsTx}
use Rattle.sx_tx.specs.TransactionDecoding.{tx_at}
use Rattle.sx_tx.proofs.TxLaws.{tx_takes, tx_again, length-tx_bytes, none_is_shorter}
use Rattle.sx_tx.proofs.FaultPlaces.{tx_within}
use Rattle.sx_tx.proofs.laws.tx_laws.Goals as goal

pub returns-clause-decodes_only : goal.returns-clause-decodes_only
returns-clause-decodes_only c = decodes_only_encodings tx_at tx_bytes IsTx tx_takes

pub returns-clause-decodes_every : goal.returns-clause-decodes_every
returns-clause-decodes_every c = decodes_every_encoding tx_at tx_bytes IsTx tx_again

pub returns-clause-injective : goal.returns-clause-injective
returns-clause-injective c = is_injective tx_at tx_bytes IsTx tx_again

pub returns-clause-prefix_free : goal.returns-clause-prefix_free
returns-clause-prefix_free c = is_prefix_free tx_at tx_bytes IsTx tx_again

pub returns-clause-length : goal.returns-clause-length
returns-clause-length c = length-tx_bytes

pub returns-clause-shortest : goal.returns-clause-shortest
returns-clause-shortest c = none_is_shorter

pub returns-clause-within : goal.returns-clause-within
returns-clause-within c = tx_within
