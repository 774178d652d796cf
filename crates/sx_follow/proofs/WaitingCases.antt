-- The places of blocks by height, at a list of few blocks.
use Rattle.std.proofs.Common.{◌≡◌, ℕ, [], ◌∷◌, List, refl}
use Rattle.sx_follow.specs.declared.waiting.Waiting.{Waiting}
use Rattle.sx_follow.specs.Waiting.{AreWaiting, places_at, places_of}
use Rattle.sx_block.specs.declared.header.Block.{Block}

module _ (any : Block) where
  abbrev of_height : ℕ → Block
  of_height height = record any { header = record any.header { height = height } }

  -- blocks of the heights 7, 8 and 7
  places : (places_of 7 (of_height 7 ∷ of_height 8 ∷ of_height 7 ∷ []) ≡ 0 ∷ 2 ∷ [])
      × (places_of 8 (of_height 7 ∷ of_height 8 ∷ of_height 7 ∷ []) ≡ 1 ∷ [])
      × (places_of 9 (of_height 7 ∷ of_height 8 ∷ of_height 7 ∷ []) ≡ [])
  places = (refl, refl, refl)

-- the places that wait are those of the blocks, at each height
told_places : (blocks : List Block) (waiting : Waiting) → AreWaiting blocks waiting
    → (height : ℕ) → places_at waiting height ≡ places_of height blocks
told_places blocks waiting are = are
