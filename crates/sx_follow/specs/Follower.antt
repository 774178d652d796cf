-- What a follower keeps, and how it goes on.
use Rattle.std.specs.Prelude.{◌≡◌, ℕ, ◌≤◌, ◌+◌, List, [], length, take}
use Rattle.std.specs.List.{All}
use Rattle.sx_block.specs.declared.header.Block.{Block}
use Rattle.sx_block.specs.Block.{IsBlock}
use Rattle.sx_block.specs.Validity.{digest_of_ledger, ledger_after}
use Rattle.sx_follow.specs.declared.leaving.Leaving.{Leaving}
use Rattle.sx_block.specs.Chain.{IsChain, IsNext, ledger_after_all}
use Rattle.sx_ledger.specs.declared.parts.Parts.{Parts}
use Rattle.sx_ledger.specs.Ledger.{IsLedger}

-- the most blocks that a follower takes
abbrev pub most_blocks : ℕ
most_blocks = 1000000

-- the ledger that it began with, the blocks that it took, how many of their chain it has applied, and the ledger after
-- these
pub record Followed : Type 0 where
  pub opening : Parts
  pub blocks : List Block
  pub steps : ℕ
  pub head : Parts

-- a follower that has taken no block
abbrev pub begun : Parts → Followed
begun ledger = record { opening = ledger; blocks = []; steps = 0; head = ledger }

-- the head is what the first blocks of the chain leave of the opening ledger
pub record IsFollower (seen : Followed) : Type 0 where
  pub ledger : IsLedger seen.opening
  pub form : All IsBlock seen.blocks
  pub few : length seen.blocks ≤ most_blocks
  pub chain : List Block
  pub is_chain : IsChain seen.opening seen.blocks chain
  pub within : seen.steps ≤ length chain
  pub few_steps : seen.steps ≤ length seen.blocks
  pub is_head : seen.head ≡ ledger_after_all seen.opening (take seen.steps chain)

-- the head is what the whole chain leaves of the opening ledger
pub record HasWholeChain (seen : Followed) : Type 0 where
  pub chain : List Block
  pub is : IsChain seen.opening seen.blocks chain
  pub is_head : seen.head ≡ ledger_after_all seen.opening chain

-- the first valid block of the list leaves this
pub record NextLeaves (parts : Parts) (blocks : List Block) (left : Leaving) : Type 0 where
  pub block : Block
  pub next : IsNext parts blocks block
  pub ledger : left.ledger ≡ ledger_after parts block
  pub digest : left.digest ≡ digest_of_ledger (ledger_after parts block)

-- the first block that is valid for the head was applied, and nothing else changed
pub record Advances (old new : Followed) : Type 0 where
  pub block : Block
  pub next : IsNext old.head old.blocks block
  pub becomes : new ≡ record old { steps = old.steps + 1; head = ledger_after old.head block }
