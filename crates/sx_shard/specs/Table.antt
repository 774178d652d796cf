-- The rule of the table.
use Rattle.std.specs.Prelude.{◌≡◌, ℕ, true, List, map, slice_index, All}
use Rattle.atomic_table.specs.Table as table
use Rattle.sx_event.specs.View.{opened}
use Rattle.sx_event.specs.State.{State}
use Rattle.sx_event.specs.Rule.{Rule}
use Rattle.sx_shard.specs.declared.known.Known.{Known}
use Rattle.sx_shard.specs.declared.known.Opening.{Opening}
use Rattle.sx_shard.specs.Words.{purses_in, bits_in}
use Rattle.sx_shard.specs.Known.{view_in, known_of}

-- the purse words and the bit words at the opening
abbrev pub opening_purses : Opening → List ℕ
opening_purses opening = purses_in opening.purses opening.words.value.items

abbrev pub opening_bits : Opening → List ℕ
opening_bits opening = bits_in opening.purses opening.words.value.items

-- the state of the core with these words and these views
abbrev pub state_in : Opening → List ℕ → List Known → State
state_in opening words knowns = record {
  opening_purses = opening_purses opening;
  opening_bits = opening_bits opening;
  count = opening.count;
  purses = purses_in opening.purses words;
  bits = bits_in opening.purses words;
  views = map view_in knowns;
}

-- a live view's copy is the purse words at the opening
abbrev pub HasCopy : List ℕ → Known → Type 0
HasCopy purses known = known.live ≡ true → known.opening ≡ purses

-- the core's rule holds, each live view has the copy, and word 0 is 0
pub record Kept (opening : Opening) (state : table.State (Unit {0}) Known) : Type 0 where
  pub rule : Rule (state_in opening state.words state.views)
  pub copies : All (HasCopy (opening_purses opening)) state.views
  pub zero : slice_index state.words 0 ≡ 0

-- what the first seat knows
abbrev pub first : Opening → Known
first opening = known_of (opened 0 opening.count) (opening_purses opening)
