-- The chain that blocks of a list make, one on the other, whatever else stands in the list.
use Rattle.std.specs.Prelude.{◌≡◌, ℕ, ◌<◌, List, [], ◌∷◌, fold, length, slice_index_or}
use Rattle.std.specs.List.{All}
use Rattle.sx_block.specs.declared.header.Block.{Block}
use Rattle.sx_block.specs.Validity.{IsValid, ledger_after}
use Rattle.sx_ledger.specs.declared.parts.Parts.{Parts}

-- no block of the list is valid for the ledger
abbrev pub NoneIsValid : Parts → List Block → Type 0
NoneIsValid parts blocks = All (λ block. ¬ IsValid parts block) blocks

-- this block is the first of the list that is valid for the ledger
pub record IsNext (parts : Parts) (blocks : List Block) (block : Block) : Type 0 where
  pub place : ℕ
  pub within : place < length blocks
  pub there : slice_index_or blocks place block ≡ block
  pub valid : IsValid parts block
  pub earlier : (k : ℕ) (d : Block) → k < place → ¬ IsValid parts (slice_index_or blocks k d)

-- The chain of a list from a ledger on. It is empty where no block of the list is valid for the ledger. Otherwise it is
-- the first that is, and then the chain of the same list from the ledger that this one leaves.
abbrev pub IsChain : Parts → List Block → List Block → Type 0
IsChain parts blocks [] = NoneIsValid parts blocks
IsChain parts blocks (next ∷ others) = IsNext parts blocks next × IsChain (ledger_after parts next) blocks others

-- the ledger after the blocks, each on the ledger that the one before it left
abbrev pub ledger_after_all : Parts → List Block → Parts
ledger_after_all parts blocks = fold ledger_after parts blocks

-- each block is valid for the ledger that the one before it left
abbrev pub AreValid : Parts → List Block → Type 0
AreValid parts [] = Unit {0}
AreValid parts (next ∷ others) = IsValid parts next × AreValid (ledger_after parts next) others
