-- The prices of a trial, from lists of prices and of excesses.
use Rattle.std.specs.Prelude.{◌≡◌, ℕ, ◌<◌, ◌≤◌, List, length, map, slice_index, slice_index_or, ℤ, pos, unsigned_abs}
use Rattle.sx_curve.specs.Demand.{assets_of, price_of}
use Rattle.sx_curve.specs.Search.{moved_price}

-- for each of n assets an excess and a volume, of which the excess is no more
pub record AreExcesses (n : ℕ) (nets : List ℤ) (volumes : List ℕ) : Type 0 where
  pub nets_full : length nets ≡ n
  pub volumes_full : length volumes ≡ n
  pub within : (k : ℕ) → k < n → unsigned_abs (slice_index_or nets k (pos 0)) ≤ slice_index volumes k

abbrev pub moved_prices : ℕ → List ℕ → List ℤ → List ℕ → List ℕ
moved_prices exponent prices nets volumes =
    map
    (λ asset. moved_price exponent (price_of prices asset) (slice_index_or nets asset (pos 0))
    (slice_index volumes asset))
    (assets_of prices)
