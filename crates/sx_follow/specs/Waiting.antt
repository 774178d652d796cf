-- Where the blocks of each height stand in a list.
use Rattle.std.specs.Prelude.{◌≡◌, ℕ, suc, List, [], ◌∷◌, ◌++◌, Option, None, Some, ◌==◌, if◌then◌else◌}
use Rattle.std.specs.BTreeMap.{get as get_at}
use Rattle.std.specs.Global.{Global}
use Rattle.std.specs.Ordering.{nat_cmp}
use Rattle.std.specs.declared.vec.Vec.{Vec}
use Rattle.sx_block.specs.declared.header.Block.{Block}
use Rattle.sx_follow.specs.declared.waiting.Waiting.{Waiting}

abbrev pub items_of : Option (Vec ℕ Global) → List ℕ
items_of None = []
items_of (Some places) = places.items

-- the places that were entered at a height
abbrev pub places_at : Waiting → ℕ → List ℕ
places_at waiting height = items_of (get_at nat_cmp waiting.places height)

-- the places of the blocks of this height, where the first block stands at `place`
abbrev pub places_from : ℕ → ℕ → List Block → List ℕ
places_from place height [] = []
places_from place height (block ∷ blocks) =
    (if block.header.height == height then place ∷ [] else []) ++ places_from (suc place) height blocks

-- the places of the blocks of this height, in their order
abbrev pub places_of : ℕ → List Block → List ℕ
places_of height blocks = places_from 0 height blocks

-- each place of a block is entered at its height, in their order, and no other
abbrev pub AreWaiting : List Block → Waiting → Type 0
AreWaiting blocks waiting = (height : ℕ) → places_at waiting height ≡ places_of height blocks
