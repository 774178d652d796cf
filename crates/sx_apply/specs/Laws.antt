-- A law of valid blocks, for all ledgers.
use Rattle.std.specs.Prelude.{◌<◌}
use Rattle.sx_apply.specs.Trading.{Clears}
use Rattle.sx_block.specs.declared.header.Block.{Block}
use Rattle.sx_block.specs.Validity.{IsValid}
use Rattle.sx_ledger.specs.declared.parts.Parts.{Parts}
use Rattle.sx_ledger.specs.Body.{IsAdmissibleIn, body_after}
use Rattle.sx_ledger.specs.Ledger.{most_height}

-- what the calls of this crate ask of a block and its ledger
pub record CanApply (parts : Parts) (block : Block) : Type 0 where
  pub admissible : IsAdmissibleIn 2 parts block.txs
  pub below_last : (body_after parts block.txs).height < most_height
  pub clears : Clears (body_after parts block.txs) block.header

-- a valid block has all of it
abbrev pub ValidCanApply : Type 0
ValidCanApply = (parts : Parts) (block : Block) → IsValid parts block → CanApply parts block
