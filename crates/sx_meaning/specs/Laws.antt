-- Laws of inputs, and of chains of blocks.
use Rattle.std.specs.Prelude.{◌≡◌, ℕ, ◌<◌, ◌≤◌, List, [], ◌∷◌, length, IsTrue}
use Rattle.sx_block.specs.declared.header.Block.{Block}
use Rattle.sx_bytes.specs.Field.{AreBytes}
use Rattle.sx_block.specs.Chain.{AreValid, ledger_after_all}
use Rattle.sx_ledger.specs.declared.parts.Parts.{Parts}
use Rattle.sx_ledger.specs.Ledger.{IsLedger, assets_of, total_of}
use Rattle.sx_meaning.specs.Findings.{Finding, Finds, MayComeAll, no_fault}
use Rattle.sx_meaning.specs.Items.{Item, state}
use Rattle.sx_meaning.specs.Outputs.{MayWrite, writes_one}
use Rattle.sx_meaning.specs.Replays.{blocks_of, most_blocks}
use Rattle.sx_words.specs.declared.command.Command.{Command}
use Rattle.sx_words.specs.declared.command.Command.TheVariants.{Follow, Replay}

-- one thing is found of an input at most, and one list of bytes is left of it, so that the answer to it is a function
-- of the input
abbrev pub FindsOne : Type 0
FindsOne =
    (command : Command) (bytes : List ℕ) (one other : Finding) (left right : List ℕ) → Finds command bytes one left
    → Finds command bytes other right → (one ≡ other) × (left ≡ right)

-- and something is always found, by each command
abbrev pub FindsSome : Type 0
FindsSome =
    (command : Command) (bytes : List ℕ) → AreBytes bytes
    → (finding : Finding) × (left : List ℕ) × Finds command bytes finding left

-- and so is the output of each command but a seal and a demonstration
abbrev pub WritesOne : Type 0
WritesOne =
    (command : Command) (bytes one other left right : List ℕ) → IsTrue (writes_one command)
    → MayWrite command bytes one left → MayWrite command bytes other right → one ≡ other

-- which is always there where no fault is found
abbrev pub WritesSome : Type 0
WritesSome =
    (command : Command) (bytes left : List ℕ) → IsTrue (writes_one command) → Finds command bytes no_fault left
    → (text : List ℕ) × MayWrite command bytes text left

-- what the blocks of a replay are: a chain of valid ones, no more than there may be
pub record AreChain (parts : Parts) (items : List Item) : Type 0 where
  pub ledger : IsLedger parts
  pub valid : AreValid parts (blocks_of items)
  pub few : length (blocks_of items) ≤ most_blocks

abbrev pub ReplaysChains : Type 0
ReplaysChains =
    (workers : ℕ) (parts : Parts) (items : List Item) → MayComeAll (Replay workers) [] (state parts ∷ items)
    → AreChain parts items

-- where a replay writes a state, a follower that takes the same blocks writes it too
abbrev pub FollowsReplays : Type 0
FollowsReplays =
    (workers : ℕ) (bytes text left : List ℕ) → MayWrite (Replay workers) bytes text left
    → MayWrite Follow bytes text left

-- what a chain of valid blocks leaves of a ledger is a ledger
abbrev pub ChainKeepsLedger : Type 0
ChainKeepsLedger =
    (parts : Parts) (blocks : List Block) → IsLedger parts → AreValid parts blocks →
    IsLedger (ledger_after_all parts blocks)

-- Conservation: after a chain of valid blocks the total of each asset, of balances, offers and rounding, is that of
-- the first ledger.
abbrev pub ChainConserves : Type 0
ChainConserves =
    (parts : Parts) (blocks : List Block) (asset : ℕ) → IsLedger parts → AreValid parts blocks →
    asset < assets_of parts →
    total_of (ledger_after_all parts blocks) asset ≡ total_of parts asset
