-- The state of a gathering.
use Rattle.std.specs.Prelude.{ℕ, List, [], ◌∷◌, slice_index, slice_index_or}
use Rattle.sx_event.specs.View.{View, opened, spent}

-- the words at the opening, how many candidates there are, the words now, and the views, named by
-- their places in the list
pub record State : Type 0 where
  pub opening_purses : List ℕ
  pub opening_bits : List ℕ
  pub count : ℕ
  pub purses : List ℕ
  pub bits : List ℕ
  pub views : List View

-- before the first step: one view has all candidates
abbrev pub begun : List ℕ → List ℕ → ℕ → State
begun purses bits count = record {
  opening_purses = purses;
  opening_bits = bits;
  count = count;
  purses = purses;
  bits = bits;
  views = opened 0 count ∷ [];
}

-- the view of this name
abbrev pub view_of : State → ℕ → View
view_of state name = slice_index_or state.views name spent

-- the purse word of this name
abbrev pub purse_of : State → ℕ → ℕ
purse_of state purse = slice_index state.purses purse

-- the bit word of this name
abbrev pub word_of : State → ℕ → ℕ
word_of state word = slice_index state.bits word

-- what contracts see of a core: its state, and how many steps it has memory for
pub record Running : Type 0 where
  pub state : State
  pub spare : ℕ
