-- Laws of refusals, for all ledgers and blocks.
use Rattle.std.specs.Prelude.{◌≡◌, ◌⊎◌, ℕ, List}
use Rattle.sx_block.specs.declared.header.Block.{Block}
use Rattle.sx_block.specs.Block.{IsBlock}
use Rattle.sx_block.specs.Validity.{IsApplicable, IsSound, IsValid, digest_of_ledger, ledger_after}
use Rattle.sx_block.specs.declared.invalid.Invalid.{Invalid}
use Rattle.sx_block.specs.Checked.{IsWrongAfter, IsWrongParent}
use Rattle.sx_block.specs.Refusals.{Refuses}
use Rattle.sx_ledger.specs.declared.parts.Parts.{Parts}
use Rattle.sx_ledger.specs.Ledger.{IsLedger}

-- a block is refused for one first reason at most
abbrev pub OneReason : Type 0
OneReason =
    (parts : Parts) (block : Block) (one other : Invalid) → Refuses parts block one → Refuses parts block other
    → one ≡ other

-- a valid block is refused for no reason
abbrev pub ValidIsNotRefused : Type 0
ValidIsNotRefused = (parts : Parts) (block : Block) (why : Invalid) → IsValid parts block → ¬ Refuses parts block why

-- a block that is valid but for the digest of the ledger that it leaves is refused where it names another ledger
abbrev pub WrongAfterRefuses : Type 0
WrongAfterRefuses =
    (parts : Parts) (block : Block) (after : List ℕ) (why : Invalid) → IsSound parts block →
    after ≡ digest_of_ledger (ledger_after parts block) → IsWrongAfter block.header after why →
    Refuses parts block why

-- a block that can be applied is refused where it names another ledger as its parent
abbrev pub WrongParentRefuses : Type 0
WrongParentRefuses =
    (parts : Parts) (block : Block) (parent : List ℕ) (why : Invalid) → IsApplicable parts block →
    parent ≡ digest_of_ledger parts → IsWrongParent block.header parent why → Refuses parts block why

-- each block is valid, or refused for some first reason
pub record IsRefused (parts : Parts) (block : Block) : Type 0 where
  pub why : Invalid
  pub refuses : Refuses parts block why

abbrev pub EveryBlockIsJudged : Type 0
EveryBlockIsJudged =
    (parts : Parts) (block : Block) → IsLedger parts → IsBlock block → IsValid parts block ⊎ IsRefused parts block
