-- What calls at the places of a part of a list need, and what they leave there.
use Rattle.std.specs.Prelude.{◌≡◌, ℕ, ◌+◌, ◌<◌, List, length, slice_index_or}
use denote.Ref.{MutBor}
use denote.Param.Members.{Shared}
use Rattle.std.specs.Fork.{ChangesAt}

module _ {F T : Type 0} (g : Shared F (ℕ × (MutBor T × Unit {0})) ((Unit {0}) × (MutBor T × Unit {0}))) (f : F) where
  -- f may be called at each place of xs, the first of which is the place base of the list
  abbrev pub AcceptsFrom : ℕ → List T → Type 0
  AcceptsFrom base xs =
      (k : ℕ) (p : MutBor T) → k < length xs → p.now ≡ slice_index_or xs k p.now → g.pre f (base + k, (p, tt))

  -- ys is what calls of f at each of these places may leave
  pub record ChangesFrom (base : ℕ) (xs ys : List T) : Type 0 where
    pub len : length ys ≡ length xs
    pub each : (k : ℕ) (d : T) → k < length xs
        → ChangesAt g f (base + k) (slice_index_or xs k d) (slice_index_or ys k d)
