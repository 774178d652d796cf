-- The quotes that points tell, with where each pair begins; and points of quotes in order, as they are built.
use Rattle.std.specs.Prelude.{◌≡◌, ℕ, suc, ◌+◌, ◌-◌, ◌/◌, ◌%◌, ◌<◌, ◌≤◌, if◌then◌else◌, nat_le, nat_lt}
use Rattle.std.specs.Prelude.{List, [], ◌∷◌, All, length, map, slice_index, slice_index_or}
use Rattle.std.specs.List.{range_with_len}
use Rattle.sx_curve.specs.declared.points.Point.{Point}
use Rattle.sx_curve.specs.declared.quote.Quote.{Quote}
use Rattle.sx_curve.specs.Curves.{AreInOrder, ArePoints, BeginsAt, HasLimit, place_of_quote}

-- ---- the quotes

abbrev pub no_point : Point
no_point = record { limit = 0; amount = 0; weighted = 0 }

-- how many of the first pairs have begun at an index
abbrev pub begun_at : ℕ → List ℕ → ℕ
begun_at k [] = 0
begun_at k (begin ∷ begins) = if nat_le begin k then suc (begun_at k begins) else 0

-- the place of the pair of the quote at an index: of the last pair that has begun
abbrev pub pair_at : ℕ → List ℕ → ℕ
pair_at k begins = begun_at k begins - 1

-- the amounts of the quotes of a pair before one of them, where the pair begins at an index
abbrev pub amount_before : List Point → ℕ → ℕ → ℕ
amount_before points begin k = if nat_lt begin k then (slice_index_or points (k - 1) no_point).amount else 0

abbrev pub quote_at : List Point → List ℕ → ℕ → Quote
quote_at points begins k = record {
  sell = pair_at k begins / 32;
  buy = pair_at k begins % 32;
  limit = (slice_index_or points k no_point).limit;
  amount = (slice_index_or points k no_point).amount
      - amount_before points (slice_index begins (pair_at k begins)) k;
}

-- the quotes of which these are the points, where these are the indices at which the first pairs begin
abbrev pub quotes_of : List Point → List ℕ → List Quote
quotes_of points begins = map (quote_at points begins) (range_with_len 0 (length points))

-- ---- how they are built

-- these are points of quotes in order, of which so many pairs have begun
pub record AreBuilt (quotes : List Quote) (points : List Point) (begins : List ℕ) (begun : ℕ) : Type 0 where
  pub limits : All HasLimit quotes
  pub buys : All (λ quote. quote.buy < 32) quotes
  pub in_order : AreInOrder quotes
  pub of_quotes : ArePoints quotes points (length quotes)
  pub full : length begins ≡ 1025
  pub few : begun ≤ 1024
  pub pairs : (place : ℕ) → place < begun → BeginsAt quotes place (slice_index begins place)
  pub none : length quotes ≡ 0 → begun ≡ 0
  pub last : (d : Quote) → 0 < length quotes
      → begun ≡ place_of_quote (slice_index_or quotes (length quotes - 1) d) + 1
