-- What a valid block leaves of a ledger.
use Rattle.std.specs.Prelude.{◌≡◌}
use Rattle.sx_block.specs.declared.header.Block.{Block}
use Rattle.sx_block.specs.Validity.{IsValid, digest_of_ledger, ledger_after}
use Rattle.sx_ledger.specs.declared.parts.Parts.{Parts}
use Rattle.sx_follow.specs.declared.leaving.Leaving.{Leaving}

-- the block is valid for the ledger and leaves this
pub record Leaves (parts : Parts) (block : Block) (left : Leaving) : Type 0 where
  pub valid : IsValid parts block
  pub ledger : left.ledger ≡ ledger_after parts block
  pub digest : left.digest ≡ digest_of_ledger (ledger_after parts block)
