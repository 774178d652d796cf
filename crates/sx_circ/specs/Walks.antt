-- Walks over assets, along which value can be moved. No public clause cites this module.
use Rattle.std.specs.Prelude.{◌≡◌, ◌≢◌, ℕ, ◌+◌, ◌<◌, ◌≤◌, length, slice_index}
use Rattle.sx_circ.specs.declared.walk.Walk.{Walk}
use Rattle.sx_circ.specs.declared.walk.Cycle.{Cycle}
use Rattle.sx_circ.specs.Residual.{CanMove}

-- the asset at a place, and its height
abbrev pub asset_at : Walk → ℕ → ℕ
asset_at walk place = slice_index walk.assets place

abbrev pub height_at : Walk → ℕ → ℕ
height_at walk place = slice_index walk.heights place

-- there are 33 places
pub record HasRoom (walk : Walk) : Type 0 where
  pub assets : length walk.assets ≡ 33
  pub heights : length walk.heights ≡ 33

-- this amount can be moved along the step at a place
abbrev pub CanMoveAt : (ℕ → ℕ → ℕ) → (ℕ → ℕ → ℕ) → (ℕ → ℕ → ℕ) → ℕ → Walk → ℕ → Type 0
CanMoveAt low high y amount walk k =
    CanMove low high y amount (asset_at walk k) (asset_at walk (k + 1)) (height_at walk k) (height_at walk (k + 1))

-- the places of a walk hold assets below n, another one after each
pub record AreWithin (n : ℕ) (walk : Walk) : Type 0 where
  pub room : HasRoom walk
  pub few : walk.last ≤ 32
  pub assets : (k : ℕ) → k ≤ walk.last → asset_at walk k < n
  pub apart : (k : ℕ) → k < walk.last → asset_at walk k ≢ asset_at walk (k + 1)

-- a walk over assets below n, by steps that can move something
pub record IsWalk (n : ℕ) (low high y : ℕ → ℕ → ℕ) (walk : Walk) : Type 0 where
  pub within : AreWithin n walk
  pub steps : (k : ℕ) → k < walk.last → CanMoveAt low high y 1 walk k

-- a walk that comes back to an asset higher than it left it, and leaves no asset twice
pub record IsGaining (n : ℕ) (low high y : ℕ → ℕ → ℕ) (cycle : Cycle) : Type 0 where
  pub way : IsWalk n low high y cycle.walk
  pub begins : cycle.first < cycle.walk.last
  pub closed : asset_at cycle.walk cycle.first ≡ asset_at cycle.walk cycle.walk.last
  pub distinct : (i j : ℕ) → i < j → j < cycle.walk.last → asset_at cycle.walk i ≢ asset_at cycle.walk j
  pub gains : height_at cycle.walk cycle.first < height_at cycle.walk cycle.walk.last
