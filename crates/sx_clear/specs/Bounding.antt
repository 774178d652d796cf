-- What the quotes of each pair must trade and may trade at given prices.
use Rattle.std.specs.Prelude.{◌≡◌, ℕ, ◌*◌, ◌/◌, ◌%◌, ◌^◌, ◌<◌, ◌≤◌, List, length, slice_index_or}
use Rattle.std.specs.List.{filter}
use Rattle.sx_curve.specs.declared.quote.Quote.{Quote}
use Rattle.sx_curve.specs.Demand.{e_must, may_at, price_of}
use Rattle.sx_curve.specs.Quotes.{amounts, pair_of}

-- the value of those that must
abbrev pub must_value : List Quote → List ℕ → ℕ → ℕ → ℕ → ℕ
must_value quotes prices j sell buy =
    price_of prices sell * e_must (price_of prices sell) (price_of prices buy) j (pair_of sell buy quotes)

-- and of those that may
abbrev pub may_value : List Quote → List ℕ → ℕ → ℕ → ℕ
may_value quotes prices sell buy =
    price_of prices sell
    * amounts (filter (may_at (price_of prices sell) (price_of prices buy)) (pair_of sell buy quotes))

-- the entry at a place of a table with n rows is the value of its pair, and that is at most 2^102
pub record IsValueAt (n : ℕ) (value : ℕ → ℕ → ℕ) (place entry : ℕ) : Type 0 where
  pub of_pair : entry ≡ value (place / n) (place % n)
  pub in_range : entry ≤ 2 ^ 102

pub record AreValues (n : ℕ) (value : ℕ → ℕ → ℕ) (entries : List ℕ) : Type 0 where
  pub full : length entries ≡ n * n
  pub each : (place d : ℕ) → place < n * n → IsValueAt n value place (slice_index_or entries place d)
