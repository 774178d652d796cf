-- What each command reads, and which fault it finds first of that, if any.
use Rattle.std.specs.Prelude.{◌≡◌, ℕ, ◌<◌, ◌⊎◌, false, List, [], ◌∷◌, ◌++◌, length, IsTrue, Ok, Err}
use Rattle.sx_block.specs.declared.header.Block.{Block}
use Rattle.sx_block.specs.Block.{IsBlock}
use Rattle.sx_block.specs.Validity.{IsValid}
use Rattle.sx_bytes.specs.declared.fault.FormFault.{FormFault}
use Rattle.sx_block.specs.declared.invalid.Invalid.{Invalid}
use Rattle.sx_block.specs.declared.invalid.Invalid.TheVariants as invalid
use Rattle.sx_block.specs.Refusals.{Refuses}
use Rattle.sx_commit.specs.Claim.{Claim}
use Rattle.sx_block.specs.Chain.{ledger_after_all}
use Rattle.sx_outcome.specs.declared.script.Script.{Script}
use Rattle.sx_outcome.specs.declared.space.NoRoom.{NoRoom}
use Rattle.sx_outcome.specs.declared.space.NoRoom.TheVariants as no_room
use Rattle.sx_outcome.specs.Room.{room_for}
use Rattle.sx_ledger.specs.declared.parts.Parts.{Parts}
use Rattle.sx_meaning.specs.Expected.{Expected, IsDoneWith, IsExpected, end_only, item_at, may_end, needed, record_of}
use Rattle.sx_meaning.specs.Expected.{unread}
use Rattle.sx_meaning.specs.Items.{IsItem, Item, block, candidates, item_record, proof, records, script, state, tag_of}
use Rattle.sx_meaning.specs.Replays.{blocks_of, expected_in_replay, most_blocks}
use Rattle.sx_record.specs.Tags.{block_tag, candidates_tag, outcomes_tag, proof_tag, script_tag, state_tag}
use Rattle.sx_tx.specs.declared.tx.Tx.{Tx}
use Rattle.sx_words.specs.declared.command.Command.{Command}
use Rattle.sx_words.specs.declared.command.Command.TheVariants.{Check, Demo, Filter, Follow, Interleave, Migrate, Prove}
use Rattle.sx_words.specs.declared.command.Command.TheVariants.{Replay, Seal, Show, Verify}

-- what is found of an input: no fault, so that an output is written, the first form fault, or why it is refused
pub data Finding : Type 0 where
  no_fault : Finding
  malformed : (fault : FormFault) → Finding
  refused : (number : ℕ) → (why : Invalid) → Finding

-- ---- check

-- the block is valid, or this is the first reason why it is refused
abbrev pub FindsInBlock : Parts → Block → Finding → Type 0
FindsInBlock parts said no_fault = IsValid parts said
FindsInBlock parts said (malformed fault) = ⊥
FindsInBlock parts said (refused number why) = (number ≡ 0) × Refuses parts said why

-- a state and a block
pub record Checks (items : List Item) (finding : Finding) : Type 0 where
  pub parts : Parts
  pub said : Block
  pub are : items ≡ state parts ∷ block said ∷ []
  pub finds : FindsInBlock parts said finding

-- ---- a state and blocks

-- a state and blocks, which were judged as they came, or are never refused
pub record TakesBlocks (items : List Item) (finding : Finding) : Type 0 where
  pub parts : Parts
  pub others : List Item
  pub are : items ≡ state parts ∷ others
  pub finds : finding ≡ no_fault

-- an item that is a block is valid for this ledger
abbrev pub IsValidOn : Parts → Item → Type 0
IsValidOn parts (block said) = IsValid parts said
IsValidOn parts _ = Unit {0}

-- after these items an item that is a block is valid for the ledger so far
abbrev pub IsNextValid : List Item → Item → Type 0
IsNextValid (state parts ∷ others) next = IsValidOn (ledger_after_all parts (blocks_of others)) next
IsNextValid _ next = Unit {0}

-- after these items a block, of this number from 0, is refused for this reason first
pub record RefusesNext (items : List Item) (said : Block) (number : ℕ) (why : Invalid) : Type 0 where
  pub parts : Parts
  pub others : List Item
  pub are : items ≡ state parts ∷ others
  pub is_number : number ≡ length (blocks_of others)
  pub few : number < most_blocks
  pub refuses : Refuses (ledger_after_all parts (blocks_of others)) said why

-- ---- candidates

-- why there is no room for candidates, as a reason why a block is refused
abbrev pub as_invalid : NoRoom → Invalid
as_invalid no_room.Ended = invalid.Ended
as_invalid (no_room.Crowded have more limit) = invalid.Crowded have more limit

-- there is room for the candidates, or this is why there is none
abbrev pub FindsRoom : Parts → List Tx → Finding → Type 0
FindsRoom parts txs no_fault = room_for parts txs ≡ Ok tt
FindsRoom parts txs (malformed fault) = ⊥
FindsRoom parts txs (refused number why) =
    (number ≡ 0) × ((reason : NoRoom) × (room_for parts txs ≡ Err reason) × (why ≡ as_invalid reason))

-- a state and candidates
pub record TakesCandidates (items : List Item) (finding : Finding) : Type 0 where
  pub parts : Parts
  pub txs : List Tx
  pub are : items ≡ state parts ∷ candidates txs ∷ []
  pub finds : FindsRoom parts txs finding

-- a state, candidates and a script
pub record Interleaves (items : List Item) (finding : Finding) : Type 0 where
  pub parts : Parts
  pub txs : List Tx
  pub turns : Script
  pub are : items ≡ state parts ∷ candidates txs ∷ script turns ∷ []
  pub finds : FindsRoom parts txs finding

-- ---- a state alone

-- a state
pub record TakesState (items : List Item) (finding : Finding) : Type 0 where
  pub parts : Parts
  pub are : items ≡ state parts ∷ []
  pub finds : finding ≡ no_fault

-- ---- verify

-- a root and a proof
pub record Verifies (items : List Item) (finding : Finding) : Type 0 where
  pub claim : Claim
  pub are : items ≡ proof claim ∷ []
  pub finds : finding ≡ no_fault

-- ---- show

-- one record
pub record Shows (items : List Item) (finding : Finding) : Type 0 where
  pub item : Item
  pub are : items ≡ item ∷ []
  pub finds : finding ≡ no_fault

-- ---- demo

-- nothing is read
pub record Demonstrates (items : List Item) (finding : Finding) : Type 0 where
  pub are : items ≡ []
  pub finds : finding ≡ no_fault

-- ---- all commands

-- records of these tags in turn, of which these have come, and nothing after them
abbrev pub in_turn : List ℕ → List Item → Expected
in_turn [] items = end_only
in_turn (tag ∷ tags) [] = needed tag
in_turn (tag ∷ tags) (item ∷ items) = in_turn tags items

-- the tags of the records that are shown as a text
abbrev pub shown_tags : List ℕ
shown_tags = state_tag ∷ candidates_tag ∷ block_tag ∷ outcomes_tag ∷ script_tag ∷ []

-- one record that is shown as a text, and nothing after it
abbrev pub one_record : List Item → Expected
one_record [] = record_of shown_tags false false
one_record (item ∷ items) = end_only

-- what may come after these items
abbrev pub expected : Command → List Item → Expected
expected (Seal workers shards mu rounds searches) = in_turn (state_tag ∷ candidates_tag ∷ [])
expected Check = in_turn (state_tag ∷ block_tag ∷ [])
expected (Replay workers) = expected_in_replay
expected Interleave = in_turn (state_tag ∷ candidates_tag ∷ script_tag ∷ [])
expected Migrate = in_turn (state_tag ∷ [])
expected Show = one_record
expected (Filter workers) = in_turn (state_tag ∷ candidates_tag ∷ [])
expected (Prove id) = in_turn (state_tag ∷ [])
expected Verify = in_turn (proof_tag ∷ [])
expected Follow = expected_in_replay
expected (Demo number workers) = λ items. unread

-- what is found of these items where no more comes
abbrev pub Concludes : Command → List Item → Finding → Type 0
Concludes (Seal workers shards mu rounds searches) = TakesCandidates
Concludes Check = Checks
Concludes (Replay workers) = TakesBlocks
Concludes Interleave = Interleaves
Concludes Migrate = TakesState
Concludes Show = Shows
Concludes (Filter workers) = TakesCandidates
Concludes (Prove id) = TakesState
Concludes Verify = Verifies
Concludes Follow = TakesBlocks
Concludes (Demo number workers) = Demonstrates

-- a command that judges each item before it reads on goes on after this one
abbrev pub GoesOn : Command → List Item → Item → Type 0
GoesOn (Replay workers) items item = IsNextValid items item
GoesOn _ items item = Unit {0}

-- and it stops at this block
abbrev pub StopsAt : Command → List Item → Block → ℕ → Invalid → Type 0
StopsAt (Replay workers) items said number why = RefusesNext items said number why
StopsAt _ items said number why = ⊥

-- ---- the items of an input

-- this item may come after these
pub record MayCome (command : Command) (items : List Item) (item : Item) : Type 0 where
  pub listed : IsExpected (expected command items) (tag_of item)
  pub form : IsItem item
  pub goes_on : GoesOn command items item

-- each of the others may come after these and those before it
abbrev pub MayComeAll : Command → List Item → List Item → Type 0
MayComeAll command items [] = Unit {0}
MayComeAll command items (next ∷ others) =
    MayCome command items next × MayComeAll command (items ++ next ∷ []) others

-- ---- what is found

-- no more comes after these items, where that may be
pub record FindsAtEnd (command : Command) (items : List Item) (bytes : List ℕ) (finding : Finding) (left : List ℕ) :
    Type
    0 where
  pub done : IsDoneWith (expected command items) bytes left
  pub may : IsTrue (may_end (expected command items))
  pub concludes : Concludes command items finding

-- after these items comes a block at which the command stops, and this is left after its record
pub record FindsAtBlock
    (command : Command) (items : List Item) (bytes : List ℕ) (number : ℕ) (why : Invalid) (left : List ℕ) : Type 0 where
  pub said : Block
  pub form : IsBlock said
  pub read : bytes ≡ item_record (block said) ++ left
  pub stops : StopsAt command items said number why

-- what is found of the bytes after these items, and what is then left of them
abbrev pub FindsAfter : Command → List Item → List ℕ → Finding → List ℕ → Type 0
FindsAfter command items bytes no_fault left = FindsAtEnd command items bytes no_fault left
FindsAfter command items bytes (malformed fault) left =
    item_at (expected command items) (length (records items)) bytes ≡ (Err fault, left)
FindsAfter command items bytes (refused number why) left =
    FindsAtEnd command items bytes (refused number why) left ⊎ FindsAtBlock command items bytes number why left

-- This is found of an input, and this is then left of it: after items that may come, no more comes where that may be,
-- or a block comes at which the command stops, or what comes has the first fault.
pub record Finds (command : Command) (bytes : List ℕ) (finding : Finding) (left : List ℕ) : Type 0 where
  pub items : List Item
  pub rest : List ℕ
  pub each : MayComeAll command [] items
  pub read : bytes ≡ records items ++ rest
  pub finds : FindsAfter command items rest finding left
