-- What is wanted of each asset in excess, and what is wanted and sold in all, as lists by the assets' numbers.
use Rattle.std.specs.Prelude.{◌≡◌, ℕ, ◌*◌, ◌≤◌, List, length, map, ℤ}
use Rattle.sx_curve.specs.declared.quote.Quote.{Quote}
use Rattle.sx_curve.specs.Demand.{assets_of, net_of, volume_of}
use Rattle.sx_demand.specs.declared.table.Entry.{Entry}

abbrev pub nets_of : List Quote → List ℕ → ℕ → List ℤ
nets_of quotes prices j = map (net_of quotes prices j) (assets_of prices)

abbrev pub volumes_of : List Quote → List ℕ → ℕ → List ℕ
volumes_of quotes prices j = map (volume_of quotes prices j) (assets_of prices)

-- what contracts see of a demand
pub record Excess : Type 0 where
  pub net : List ℤ
  pub volume : List ℕ

-- a row of 32 entries and three sums for each of at most 32 assets
pub record IsRoom (entries : List Entry) (sums : List ℕ) (net : List ℤ) (volume : List ℕ) : Type 0 where
  pub few : length net ≤ 32
  pub full : length entries ≡ 32 * length net
  pub columns : length sums ≡ length net
  pub same : length volume ≡ length net
