-- The blocks of a replay.
use Rattle.std.specs.Prelude.{ℕ, Bool, true, false, List, [], ◌∷◌, fold, length, nat_le, Option, None}
use Rattle.std.specs.Prelude.{Some}
use Rattle.std.specs.List.{filter_map}
use Rattle.sx_block.specs.declared.header.Block.{Block}
use Rattle.sx_meaning.specs.Expected.{Expected, needed, record_of}
use Rattle.sx_meaning.specs.Items.{Item, block}
use Rattle.sx_record.specs.Tags.{block_tag, outcomes_tag, state_tag}

-- how many blocks a replay may have
abbrev pub most_blocks : ℕ
most_blocks = 1000000

abbrev pub block_of : Item → Option Block
block_of (block said) = Some said
block_of _ = None

abbrev pub is_block : Item → Bool
is_block (block said) = true
is_block _ = false

abbrev pub blocks_of : List Item → List Block
blocks_of items = filter_map block_of items

-- the last item is a block
abbrev pub ends_with_block : List Item → Bool
ends_with_block items = fold (λ _ item. is_block item) false items

-- a block may come anywhere, and outcomes directly after one
abbrev pub tags_after : Bool → List ℕ
tags_after true = block_tag ∷ outcomes_tag ∷ []
tags_after false = block_tag ∷ []

-- the state first, and then blocks up to the last that there may be, each of which may have outcomes after it
abbrev pub expected_in_replay : List Item → Expected
expected_in_replay [] = needed state_tag
expected_in_replay (first ∷ items) =
    record_of (tags_after (ends_with_block items)) true (nat_le most_blocks (length (blocks_of items)))
