-- Bounds and flows as lists: the entry of the pair (sell, buy) of n assets is at place sell * n + buy.
use Rattle.std.specs.Prelude.{◌≡◌, ℕ, ◌+◌, ◌*◌, ◌^◌, ◌<◌, ◌≤◌, List, length, All, slice_index}

-- the numbers of assets that there may be
pub record IsAssetCount (n : ℕ) : Type 0 where
  pub some : 1 ≤ n
  pub few : n ≤ 32

-- the entry of a pair
abbrev pub entry_at : ℕ → List ℕ → ℕ → ℕ → ℕ
entry_at n entries sell buy = slice_index entries (sell * n + buy)

-- there is an entry for each two assets, of at most 2^102, and 0 where both are the same
pub record IsTable (n : ℕ) (entries : List ℕ) : Type 0 where
  pub full : length entries ≡ n * n
  pub in_range : All (λ entry. entry ≤ 2 ^ 102) entries
  pub diagonal : (asset : ℕ) → asset < n → entry_at n entries asset asset ≡ 0

-- ---- flows

-- the value that each pair trades
pub record FlowTable : Type 0 where
  pub assets : ℕ
  pub values : List ℕ

abbrev pub value_of : FlowTable → ℕ → ℕ → ℕ
value_of flow = entry_at flow.assets flow.values

pub record IsFlow (flow : FlowTable) : Type 0 where
  pub assets : IsAssetCount flow.assets
  pub values : IsTable flow.assets flow.values

-- ---- potentials

-- what an asset's potential is, in a list with one entry for each
abbrev pub potential_of : List ℕ → ℕ → ℕ
potential_of potentials asset = slice_index potentials asset

-- ---- bounds

-- the least and the greatest value that each pair may trade
pub record BoundsTable : Type 0 where
  pub assets : ℕ
  pub low : List ℕ
  pub high : List ℕ

abbrev pub low_of : BoundsTable → ℕ → ℕ → ℕ
low_of bounds = entry_at bounds.assets bounds.low

abbrev pub high_of : BoundsTable → ℕ → ℕ → ℕ
high_of bounds = entry_at bounds.assets bounds.high

pub record AreBounds (bounds : BoundsTable) : Type 0 where
  pub assets : IsAssetCount bounds.assets
  pub low : IsTable bounds.assets bounds.low
  pub high : IsTable bounds.assets bounds.high
  pub ordered : (sell buy : ℕ) → sell < bounds.assets → buy < bounds.assets →
      low_of bounds sell buy ≤ high_of bounds sell buy
