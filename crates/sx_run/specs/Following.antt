-- The steps of reading for a follower.
use Rattle.std.specs.Prelude.{◌≡◌, ℕ, ◌+◌, ◌*◌, ◌≤◌, Bool, true, List, [], ◌∷◌, ◌++◌, length, nat_le, Option, Result, Ok, Err}
use Rattle.sx_run.specs.declared.commands.following.Taking.{Taking}
use Rattle.sx_run.specs.Replaying.{most_records}
use Rattle.sx_follow.specs.Follower.{begun}
use Rattle.sx_input.specs.declared.stop.Stop.{Stop}
use Rattle.sx_input.specs.declared.stop.Stop.TheVariants as stop
use Rattle.sx_ledger.specs.declared.parts.Parts.{Parts}
use Rattle.sx_meaning.specs.Expected.{Expected, IsExpected, item_in, record_of}
use Rattle.sx_meaning.specs.Findings.{MayComeAll}
use Rattle.sx_meaning.specs.Items.{IsItem, Item, item_record, records, state, tag_of}
use Rattle.sx_meaning.specs.Replays.{blocks_of, ends_with_block, is_block, most_blocks, tags_after}
use Rattle.sx_record.specs.declared.frame.Record.{Record}
use Rattle.sx_record.specs.Frame.{MayStand, frame_bytes, most_bytes, record_bytes}
use Rattle.sx_record.specs.Stream.{Took}
use Rattle.sx_words.specs.declared.command.Command.TheVariants.{Follow}

-- ---- one record

-- the blocks that there may be have come
abbrev pub is_full : Taking → Bool
is_full place = nat_le most_blocks (length place.follower.blocks)

-- what may come next
abbrev pub expected_at : Taking → Expected
expected_at place = record_of (tags_after place.after_block) true (is_full place)

-- a place from which reading may go on
pub record MayGoOn (place : Taking) : Type 0 where
  pub few : length place.follower.blocks ≤ most_blocks
  pub near : place.at ≤ most_records (length place.follower.blocks) place.after_block * (most_bytes + frame_bytes)

-- a record that comes next
abbrev pub IsNext : Taking → Record → Type 0
IsNext place found = MayStand (tags_after place.after_block) place.at found

-- the record is an item that may come, whose block is taken, if it is one, and the next place is after it
pub record StepsTo (place : Taking) (found : Record) (next : Taking) : Type 0 where
  pub item : Item
  pub listed : IsExpected (expected_at place) (tag_of item)
  pub form : IsItem item
  pub encoded : record_bytes found.tag found.payload ≡ item_record item
  pub follower : next.follower
      ≡ record place.follower { blocks = place.follower.blocks ++ blocks_of (item ∷ []) }
  pub after : next.after_block ≡ is_block item
  pub at_end : next.at ≡ found.at + length found.payload
  pub may_go_on : MayGoOn next

-- what becomes of a record
abbrev pub Steps : Taking → Record → Result Taking Stop → Type 0
Steps place found (Ok next) = StepsTo place found next
Steps place found (Err (stop.Malformed fault)) =
    (left : List ℕ) → item_in (is_full place) place.at found left ≡ (Err fault, left)
Steps place found (Err (stop.Refused number why)) = ⊥
Steps place found (Err stop.NoMemory) = Unit {0}
Steps place found (Err stop.ReadFault) = ⊥

-- ---- all records so far

-- the input began with a state and these items, whose blocks were taken, and the rest is left
pub record HasTaken (input left : Option (List ℕ)) (place : Taking) : Type 0 where
  pub parts : Parts
  pub others : List Item
  pub each : MayComeAll Follow [] (state parts ∷ others)
  pub took : Took input left (records (state parts ∷ others))
  pub follower : place.follower ≡ record (begun parts) { blocks = blocks_of others }
  pub after : place.after_block ≡ ends_with_block others
  pub offset : place.at ≡ length (records (state parts ∷ others))
  pub may_go_on : MayGoOn place
