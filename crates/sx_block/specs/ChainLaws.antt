-- Laws of chains.
use Rattle.std.specs.Prelude.{◌≡◌, ◌++◌, List, Contains}
use Rattle.std.specs.List.{All}
use Rattle.sx_block.specs.declared.header.Block.{Block}
use Rattle.sx_block.specs.Block.{IsBlock}
use Rattle.sx_block.specs.Chain.{AreValid, IsChain}
use Rattle.sx_ledger.specs.declared.parts.Parts.{Parts}
use Rattle.sx_ledger.specs.Ledger.{IsLedger}

-- ---- words

-- one list begins with another
abbrev pub IsPrefix : List Block → List Block → Type 0
IsPrefix one other = (rest : List Block) × (one ++ rest ≡ other)

-- each block of one list is in another
abbrev pub IsPart : List Block → List Block → Type 0
IsPart one other = (block : Block) → Contains one block → Contains other block

-- no two different blocks have one parent
abbrev pub OneOfEachParent : List Block → Type 0
OneOfEachParent blocks =
    (one other : Block) → Contains blocks one → Contains blocks other → one.header.parent ≡ other.header.parent
    → one ≡ other

-- ---- laws

pub record SomeChain (parts : Parts) (blocks : List Block) : Type 0 where
  pub chain : List Block
  pub is : IsChain parts blocks chain

-- there is a chain
abbrev pub EveryListHasChain : Type 0
EveryListHasChain = (parts : Parts) (blocks : List Block) → IsLedger parts → All IsBlock blocks → SomeChain parts blocks

-- and no second one
abbrev pub OneChain : Type 0
OneChain =
    (parts : Parts) (blocks one other : List Block) → IsChain parts blocks one → IsChain parts blocks other
    → one ≡ other

-- blocks that come behind leave the chain as it was, up to its end
abbrev pub ChainGrows : Type 0
ChainGrows =
    (parts : Parts) (blocks more one other : List Block) → IsChain parts blocks one
    → IsChain parts (blocks ++ more) other → IsPrefix one other

-- where no two different blocks have one parent, the chain of a part of them is the beginning of the chain of all,
-- whatever their order and however often each stands there
abbrev pub PartGoesAsFar : Type 0
PartGoesAsFar =
    (parts : Parts) (some all one other : List Block) → OneOfEachParent all → IsPart some all
    → IsChain parts some one → IsChain parts all other → IsPrefix one other

-- where each block of the list is valid on what those before it leave, the chain is the list
abbrev pub ValidAreChain : Type 0
ValidAreChain = (parts : Parts) (blocks : List Block) → AreValid parts blocks → IsChain parts blocks blocks
