-- A block that was read, with the digest of its transactions and the survey of them.
use Rattle.std.specs.Prelude.{◌≡◌}
use Rattle.sha2.specs.Sha256.{sha256}
use Rattle.sx_check.specs.Surveys.{IsSurveyed}
use Rattle.sx_input.specs.declared.incoming.Incoming.{Incoming}
use Rattle.sx_ledger.specs.declared.parts.Parts.{Parts}
use Rattle.sx_meaning.specs.Items.{Item, block}
use Rattle.sx_tx.specs.Transactions.{list_bytes}

-- the item of the input that it is
abbrev pub item_of : Incoming → Item
item_of incoming = block incoming.block

-- the digest is that of the transactions
abbrev pub HasDigest : Incoming → Type 0
HasDigest incoming = incoming.body ≡ sha256 (list_bytes incoming.block.txs)

-- what was found is the survey of its transactions on this ledger
abbrev pub IsReady : Parts → Incoming → Type 0
IsReady parts incoming = IsSurveyed parts incoming.block.txs incoming.found
