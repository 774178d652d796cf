-- What was written of a chain of blocks, and of one block.
use Rattle.std.specs.Prelude.{◌≡◌, ℕ, ◌<◌, List, [], ◌∷◌, ◌++◌, length}
use Rattle.sx_block.specs.declared.header.Block.{Block}
use Rattle.sx_block.specs.declared.invalid.Invalid.{Invalid}
use Rattle.sx_block.specs.Chain.{IsChain, ledger_after_all}
use Rattle.sx_block.specs.Refusals.{Breaks, rule_of}
use Rattle.sx_block.specs.Rule.{Rule, rank}
use Rattle.sx_block.specs.Validity.{Holds, ledger_after}
use Rattle.sx_customer.specs.Fairness.{IsFair, total_with_rounding}
use Rattle.sx_customer.specs.Sealed.{valid_line}
use Rattle.sx_ledger.specs.declared.parts.Parts.{Parts}
use Rattle.sx_ledger.specs.Ledger.{IsLedger}
use Rattle.sx_meaning.specs.Items.{Item, block, item_record, records, state_record}
use Rattle.sx_meaning.specs.Outputs.{MayWrite}
use Rattle.sx_meaning.specs.Replays.{blocks_of}
use Rattle.sx_words.specs.declared.command.Command.TheVariants.{Follow}

-- ---- one block

-- a state and a block were read, each rule of a block holds, and a line says so
pub record Checked (input text : List ℕ) : Type 0 where
  pub parts : Parts
  pub said : Block
  pub read : input ≡ state_record parts ++ item_record (block said)
  pub ledger : IsLedger parts
  pub rules : (each : Rule) → Holds each parts said
  pub fair : IsFair parts said
  pub written : text ≡ valid_line said

-- the block breaks a rule in this way, and all rules before that one hold
pub record IsFirstReason (parts : Parts) (said : Block) (why : Invalid) : Type 0 where
  pub before : (earlier : Rule) → rank earlier < rank (rule_of why) → Holds earlier parts said
  pub breaks : Breaks parts said why

-- a state and a block were read, and this is the first reason why the block is not valid
pub record CheckRefused (input : List ℕ) (number : ℕ) (why : Invalid) : Type 0 where
  pub parts : Parts
  pub said : Block
  pub read : input ≡ state_record parts ++ item_record (block said)
  pub first : number ≡ 0
  pub reason : IsFirstReason parts said why

-- ---- a chain

-- each block is fair on the ledger that the one before it left
abbrev pub AreFair : Parts → List Block → Type 0
AreFair parts [] = Unit {0}
AreFair parts (next ∷ others) = IsFair parts next × AreFair (ledger_after parts next) others

-- a state and records with blocks were read, and the state after all blocks was written
pub record Replayed (input text : List ℕ) : Type 0 where
  pub parts : Parts
  pub others : List Item
  pub read : input ≡ state_record parts ++ records others
  pub ledger : IsLedger parts
  pub fair : AreFair parts (blocks_of others)
  pub written : text ≡ state_record (ledger_after_all parts (blocks_of others))
  -- of each asset there is as much as before, with what is kept of rounding
  pub keeps : (asset : ℕ) → asset < length parts.prices →
      total_with_rounding (ledger_after_all parts (blocks_of others)) asset ≡ total_with_rounding parts asset
  -- a follower that takes the same blocks writes the same state
  pub follows : MayWrite Follow input text []

-- A state and records with blocks were read, and after them a block of this number, for which this is the first reason
-- why it is not valid for what those before it left.
pub record ReplayRefused (input : List ℕ) (number : ℕ) (why : Invalid) : Type 0 where
  pub parts : Parts
  pub others : List Item
  pub said : Block
  pub rest : List ℕ
  pub read : input ≡ state_record parts ++ records others ++ (item_record (block said) ++ rest)
  pub is_number : number ≡ length (blocks_of others)
  pub reason : IsFirstReason (ledger_after_all parts (blocks_of others)) said why

-- a state and records with blocks were read, and the state after the chain that the blocks make was written
pub record Followed (input text : List ℕ) : Type 0 where
  pub parts : Parts
  pub others : List Item
  pub chain : List Block
  pub read : input ≡ state_record parts ++ records others
  pub ledger : IsLedger parts
  pub is : IsChain parts (blocks_of others) chain
  pub fair : AreFair parts chain
  pub written : text ≡ state_record (ledger_after_all parts chain)
