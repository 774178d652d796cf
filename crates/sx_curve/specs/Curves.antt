-- What curves keep of quotes in order: a point of each, and where each pair begins.
use Rattle.std.specs.Prelude.{◌≡◌, ◌≢◌, ℕ, ◌+◌, ◌-◌, ◌*◌, ◌^◌, ◌<◌, ◌≤◌, Bool, true, false, nat_le, List, length, take}
use Rattle.std.specs.Prelude.{All, slice_index, slice_index_or}
use Rattle.std.specs.List.{AllWithin}
use Rattle.sx_curve.specs.declared.points.Point.{Point}
use Rattle.sx_curve.specs.declared.quote.Quote.{Quote}
use Rattle.sx_curve.specs.declared.sums.Sums.{Sums}
use Rattle.sx_curve.specs.Quotes.{amounts, pair_of, sellers_of, weighted_amounts}

-- ---- what contracts see

-- the number of assets, and the quotes
pub record Market : Type 0 where
  pub assets : ℕ
  pub quotes : List Quote

-- a quote is of two of the assets
pub record IsAmong (assets : ℕ) (quote : Quote) : Type 0 where
  pub sell : quote.sell < assets
  pub buy : quote.buy < assets
  pub different : quote.sell ≢ quote.buy

-- each quote is of two of the assets, and of no asset is more than 2^62 for sale
pub record AreQuotes (assets : ℕ) (quotes : List Quote) : Type 0 where
  pub some : 1 ≤ assets
  pub few : assets ≤ 32
  pub among : All (IsAmong assets) quotes
  pub for_sale : (asset : ℕ) → asset < assets → amounts (sellers_of asset quotes) ≤ 2 ^ 62

-- ---- order

-- by the sold asset, then by the bought one, then by the limit
pub record IsUpTo (one other : Quote) : Type 0 where
  pub sell : one.sell ≤ other.sell
  pub buy : one.sell ≡ other.sell → one.buy ≤ other.buy
  pub limit : one.sell ≡ other.sell → one.buy ≡ other.buy → one.limit ≤ other.limit

-- no quote stands after one that comes later
abbrev pub AreInOrder : List Quote → Type 0
AreInOrder quotes =
    (i j : ℕ) (d : Quote) → i ≤ j → j < length quotes →
    IsUpTo (slice_index_or quotes i d) (slice_index_or quotes j d)

-- the place of a pair among all that there may be
abbrev pub place_of_pair : ℕ → ℕ → ℕ
place_of_pair sell buy = sell * 32 + buy

abbrev pub place_of_quote : Quote → ℕ
place_of_quote quote = place_of_pair quote.sell quote.buy

-- the limit is in its range
abbrev pub HasLimit : Quote → Type 0
HasLimit quote = quote.limit < 2 ^ 56

-- ---- what is kept of the quotes

-- of no pair is more than 2^62 for sale
abbrev pub DoPairsFit : List Quote → Type 0
DoPairsFit quotes = (sell buy : ℕ) → amounts (pair_of sell buy quotes) ≤ 2 ^ 62

-- the point of the quote at the place k: its limit, and the sums of the quotes of its pair up to and with it
pub record IsPoint (quotes : List Quote) (k : ℕ) (quote : Quote) (point : Point) : Type 0 where
  pub limit : point.limit ≡ quote.limit
  pub amount : point.amount ≡ amounts (pair_of quote.sell quote.buy (take (k + 1) quotes))
  pub weighted : point.weighted ≡ weighted_amounts (pair_of quote.sell quote.buy (take (k + 1) quotes))

-- the points of the first quotes, so many
pub record ArePoints (quotes : List Quote) (points : List Point) (count : ℕ) : Type 0 where
  pub full : length points ≡ count
  pub each : (k : ℕ) (d : Point) (e : Quote) → k < count →
      IsPoint quotes k (slice_index_or quotes k e) (slice_index_or points k d)

-- the sums at the last of the first points, so many, or nothing where there is none
pub record AreSumsAt (points : List Point) (count : ℕ) (sums : Sums) : Type 0 where
  pub none_amount : count ≡ 0 → sums.amount ≡ 0
  pub none_weighted : count ≡ 0 → sums.weighted ≡ 0
  pub amount : (d : Point) → 0 < count → sums.amount ≡ (slice_index_or points (count - 1) d).amount
  pub weighted : (d : Point) → 0 < count → sums.weighted ≡ (slice_index_or points (count - 1) d).weighted

-- the pairs before a place are those of the quotes before this index
pub record BeginsAt (quotes : List Quote) (place begin : ℕ) : Type 0 where
  pub within : begin ≤ length quotes
  pub before : AllWithin (λ quote. place_of_quote quote < place) quotes 0 begin
  pub after : AllWithin (λ quote. place ≤ place_of_quote quote) quotes begin (length quotes)

-- a pair's quotes stand from one index to another
pub record IsPairRange (quotes : List Quote) (sell buy begin end : ℕ) : Type 0 where
  pub asset : buy < 32
  pub begins : BeginsAt quotes (place_of_pair sell buy) begin
  pub ends : BeginsAt quotes (place_of_pair sell buy + 1) end

-- the limit of a point is at most num / den
abbrev pub is_point_below : ℕ → ℕ → Point → Bool
is_point_below num den point = nat_le (point.limit * den) num

-- of a pair's points those before this index have a limit of at most num / den
pub record ReachesTo (pair : List Point) (num den count : ℕ) : Type 0 where
  pub within : count ≤ length pair
  pub below : AllWithin (λ point. is_point_below num den point ≡ true) pair 0 count
  pub above : AllWithin (λ point. is_point_below num den point ≡ false) pair count (length pair)

-- of a pair's points those before the one index have such a limit, and those from the other on have none
pub record IsBracket (pair : List Point) (num den low high : ℕ) : Type 0 where
  pub ordered : low ≤ high
  pub within : high ≤ length pair
  pub below : AllWithin (λ point. is_point_below num den point ≡ true) pair 0 low
  pub above : AllWithin (λ point. is_point_below num den point ≡ false) pair high (length pair)

-- where each pair begins, by its place, and at last the end of the list
pub record AreBegins (quotes : List Quote) (begins : List ℕ) : Type 0 where
  pub full : length begins ≡ 1025
  pub each : (place : ℕ) → place < 1025 → BeginsAt quotes place (slice_index begins place)

pub record AreCurves (assets : ℕ) (quotes : List Quote) (points : List Point) (begins : List ℕ) : Type 0 where
  pub market : AreQuotes assets quotes
  pub limits : All HasLimit quotes
  pub in_order : AreInOrder quotes
  pub of_quotes : ArePoints quotes points (length quotes)
  pub pairs : AreBegins quotes begins
