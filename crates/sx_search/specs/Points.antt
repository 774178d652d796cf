-- Prices with what belongs to them.
use Rattle.std.specs.Prelude.{◌≡◌, ℕ, ◌≤◌, List, length}
use Rattle.sx_curve.specs.declared.quote.Quote.{Quote}
use Rattle.sx_curve.specs.Demand.{imbalance}
use Rattle.sx_curve.specs.Search.{Held}
use Rattle.sx_demand.specs.Excess.{nets_of, volumes_of}
use Rattle.sx_search.specs.declared.point.Point.{Point}

-- a price and an entry of the demand for each asset
pub record HasRoom (assets : ℕ) (point : Point) : Type 0 where
  pub prices : length point.prices.items ≡ assets
  pub nets : length point.demand.net ≡ assets
  pub few : assets ≤ 32

-- the demand is that at the prices
pub record IsAt (quotes : List Quote) (j : ℕ) (point : Point) : Type 0 where
  pub net : point.demand.net ≡ nets_of quotes point.prices.items j
  pub volume : point.demand.volume ≡ volumes_of quotes point.prices.items j
  pub off : point.off ≡ imbalance quotes point.prices.items j

-- what is held of a point and an exponent
abbrev pub held_at : Point → ℕ → Held
held_at point exponent = record { prices = point.prices.items; exponent = exponent }
