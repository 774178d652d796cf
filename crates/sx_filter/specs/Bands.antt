-- Bands of accounts: the pieces of a range.
use Rattle.std.specs.Prelude.{ℕ, ◌-◌, ◌/◌, ◌^◌, ◌<◌, ◌≤◌, min, List}
use Rattle.std.specs.List.{filter}
use Rattle.sx_filter.specs.Ranges.{is_at}
use Rattle.sx_filter.specs.declared.bands.Bands.{Bands}
use Rattle.sx_tx.specs.declared.tx.Tx.{Tx}

-- there is a band, and a shift of an id is defined
pub record AreBands (bands : Bands) : Type 0 where
  pub some : 1 ≤ bands.count
  pub shift : bands.shift < 64

-- in which band an account lies: ids below the first band are of the first, and those above the last of the last
abbrev pub band_among : Bands → ℕ → ℕ
band_among bands account = min ((account - bands.low) / 2 ^ bands.shift) (bands.count - 1)

-- the candidates in a band
abbrev pub in_band : Bands → ℕ → List Tx → List Tx
in_band bands band txs = filter (is_at (band_among bands) band) txs
