-- The walks by which each asset got its height. No public clause cites this module.
use Rattle.std.specs.Prelude.{◌≡◌, ◌≢◌, ℕ, ◌<◌, ◌≤◌, List, [], length, slice_index_or, sum_by}
use Rattle.sx_circ.specs.declared.walk.Walk.{Walk}
use Rattle.sx_circ.specs.declared.raising.Found.{Found}
use Rattle.sx_circ.specs.declared.raising.Found.TheVariants.{Nothing, Raised, Gaining}
use Rattle.sx_circ.specs.Residual.{IsLevel}
use Rattle.sx_circ.specs.Walks.{asset_at, height_at, HasRoom, IsWalk, IsGaining}

abbrev pub no_walk : Walk
no_walk = record { assets = []; heights = []; last = 0 }

-- the walk to an asset
abbrev pub walk_to : List Walk → ℕ → Walk
walk_to walks asset = slice_index_or walks asset no_walk

-- the height at the end of a walk, and so of an asset
abbrev pub top_of : Walk → ℕ
top_of walk = height_at walk walk.last

abbrev pub height_of : List Walk → ℕ → ℕ
height_of walks asset = top_of (walk_to walks asset)

-- the sum of all heights
abbrev pub total_height : List Walk → ℕ
total_height walks = sum_by top_of walks

-- the walk that stays at an asset, at height 0
pub record IsStay (start : ℕ) (walk : Walk) : Type 0 where
  pub room : HasRoom walk
  pub last : walk.last ≡ 0
  pub asset : asset_at walk 0 ≡ start
  pub height : height_at walk 0 ≡ 0

-- a walk that ends at the asset and comes to no asset twice; no place on it is higher than its asset
pub record IsLabel (n : ℕ) (low high y : ℕ → ℕ → ℕ) (walks : List Walk) (asset : ℕ) (walk : Walk) : Type 0 where
  pub way : IsWalk n low high y walk
  pub ends : asset_at walk walk.last ≡ asset
  pub bounded : (k : ℕ) → k ≤ walk.last → height_at walk k ≤ k
  pub distinct : (i j : ℕ) → i < j → j ≤ walk.last → asset_at walk i ≢ asset_at walk j
  pub under : (k : ℕ) → k ≤ walk.last → height_at walk k ≤ height_of walks (asset_at walk k)

-- there is such a walk to each asset
pub record AreLabels (n : ℕ) (low high y : ℕ → ℕ → ℕ) (walks : List Walk) : Type 0 where
  pub count : length walks ≡ n
  pub each : (asset : ℕ) → asset < n → IsLabel n low high y walks asset (walk_to walks asset)

-- the pair is level at the heights of its assets
abbrev pub ArePairLevel : (ℕ → ℕ → ℕ) → (ℕ → ℕ → ℕ) → (ℕ → ℕ → ℕ) → List Walk → ℕ → ℕ → Type 0
ArePairLevel low high y walks tail head = IsLevel low high y tail head (height_of walks tail) (height_of walks head)

-- so is each pair that this asset is sold in, and each pair
abbrev pub AreLevelFrom : ℕ → (ℕ → ℕ → ℕ) → (ℕ → ℕ → ℕ) → (ℕ → ℕ → ℕ) → List Walk → ℕ → Type 0
AreLevelFrom n low high y walks tail =
    (head : ℕ) → head < n → tail ≢ head → ArePairLevel low high y walks tail head

abbrev pub AreAllLevel : ℕ → (ℕ → ℕ → ℕ) → (ℕ → ℕ → ℕ) → (ℕ → ℕ → ℕ) → List Walk → Type 0
AreAllLevel n low high y walks = (tail : ℕ) → tail < n → AreLevelFrom n low high y walks tail

-- nothing changed and the fact holds, or heights rose, or a gaining cycle was found
abbrev pub IsFound : ℕ → (ℕ → ℕ → ℕ) → (ℕ → ℕ → ℕ) → (ℕ → ℕ → ℕ) → List Walk → List Walk → Type 0 → Found → Type 0
IsFound n low high y old new fact Nothing = (new ≡ old) × fact
IsFound n low high y old new fact Raised = total_height old < total_height new
IsFound n low high y old new fact (Gaining cycle) = IsGaining n low high y cycle
