-- The steps of a replay.
use Rattle.std.specs.Prelude.{◌≡◌, ℕ, ◌+◌, ◌*◌, ◌<◌, ◌≤◌, Bool, true, false, List, [], ◌∷◌, length, nat_le, Option}
use Rattle.std.specs.Prelude.{Result, Ok, Err}
use Rattle.sx_block.specs.declared.header.Block.{Block}
use Rattle.sx_block.specs.Block.{IsBlock}
use Rattle.sx_block.specs.declared.invalid.Invalid.{Invalid}
use Rattle.sx_block.specs.Refusals.{Refuses}
use Rattle.sx_block.specs.Chain.{ledger_after_all}
use Rattle.sx_input.specs.declared.stop.Stop.{Stop}
use Rattle.sx_input.specs.declared.stop.Stop.TheVariants as stop
use Rattle.sx_input.specs.Head.{IsHead}
use Rattle.sx_ledger.specs.declared.parts.Parts.{Parts}
use Rattle.sx_meaning.specs.Expected.{Expected, IsExpected, item_in, record_of}
use Rattle.sx_meaning.specs.Findings.{IsValidOn, MayComeAll}
use Rattle.sx_meaning.specs.Items.{IsItem, Item, block, item_record, records, state, tag_of}
use Rattle.sx_meaning.specs.NextItem.{blocks_then, ledger_then}
use Rattle.sx_meaning.specs.Replays.{blocks_of, ends_with_block, is_block, most_blocks, tags_after}
use Rattle.sx_record.specs.declared.frame.Record.{Record}
use Rattle.sx_record.specs.Frame.{MayStand, frame_bytes, most_bytes, record_bytes}
use Rattle.sx_record.specs.Stream.{Took}
use Rattle.sx_run.specs.declared.commands.replaying.Place.{Place}
use Rattle.sx_words.specs.declared.command.Command.TheVariants.{Replay}

-- ---- one record

-- the blocks that there may be have come
abbrev pub is_full : Place → Bool
is_full place = nat_le most_blocks place.blocks

-- what may come next
abbrev pub expected_at : Place → Expected
expected_at place = record_of (tags_after place.after_block) true (is_full place)

-- how many records there may be up to a place, the state's among them
abbrev pub most_records : ℕ → Bool → ℕ
most_records blocks true = 2 * blocks
most_records blocks false = 2 * blocks + 1

-- a place from which a replay may go on
pub record MayGoOn (place : Place) : Type 0 where
  pub head : IsHead place.head
  pub few : place.blocks ≤ most_blocks
  pub near : place.at ≤ most_records place.blocks place.after_block * (most_bytes + frame_bytes)

-- a record that comes next
abbrev pub IsNext : Place → Record → Type 0
IsNext place found = MayStand (tags_after place.after_block) place.at found

-- the record is an item that may come, and the next place is after it
pub record StepsTo (place : Place) (found : Record) (next : Place) : Type 0 where
  pub item : Item
  pub listed : IsExpected (expected_at place) (tag_of item)
  pub form : IsItem item
  pub valid : IsValidOn place.head.ledger item
  pub encoded : record_bytes found.tag found.payload ≡ item_record item
  pub ledger : next.head.ledger ≡ ledger_then place.head.ledger item
  pub blocks : next.blocks ≡ blocks_then place.blocks item
  pub after : next.after_block ≡ is_block item
  pub at_end : next.at ≡ found.at + length found.payload
  pub may_go_on : MayGoOn next

-- the record is a block that is refused
pub record RefusesNext (place : Place) (found : Record) (number : ℕ) (why : Invalid) : Type 0 where
  pub said : Block
  pub form : IsBlock said
  pub encoded : record_bytes found.tag found.payload ≡ item_record (block said)
  pub few : place.blocks < most_blocks
  pub is_number : number ≡ place.blocks
  pub refuses : Refuses place.head.ledger said why

-- what becomes of a record
abbrev pub Steps : Place → Record → Result Place Stop → Type 0
Steps place found (Ok next) = StepsTo place found next
Steps place found (Err (stop.Malformed fault)) =
    (left : List ℕ) → item_in (is_full place) place.at found left ≡ (Err fault, left)
Steps place found (Err (stop.Refused number why)) = RefusesNext place found number why
Steps place found (Err stop.NoMemory) = Unit {0}
Steps place found (Err stop.ReadFault) = ⊥

-- ---- all records so far

-- the input began with a state and these items, and the rest is left
pub record HasReplayed (input left : Option (List ℕ)) (place : Place) : Type 0 where
  pub parts : Parts
  pub others : List Item
  pub each : (workers : ℕ) → MayComeAll (Replay workers) [] (state parts ∷ others)
  pub took : Took input left (records (state parts ∷ others))
  pub ledger : place.head.ledger ≡ ledger_after_all parts (blocks_of others)
  pub blocks : place.blocks ≡ length (blocks_of others)
  pub after : place.after_block ≡ ends_with_block others
  pub offset : place.at ≡ length (records (state parts ∷ others))
  pub may_go_on : MayGoOn place
