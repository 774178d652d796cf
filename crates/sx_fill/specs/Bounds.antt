-- Tables of the bounds of each pair, by sums over a list of offers.
use Rattle.std.specs.Prelude.{◌≡◌, ◌≢◌, ℕ, ◌*◌, ◌^◌, ◌<◌, ◌≤◌, Bool, List, length, slice_index}
use Rattle.std.specs.List.{All, filter, sum_by}
use Rattle.sx_base.specs.Ranges.{most_amount}
use Rattle.sx_dual.specs.Sums.{EachPair}
use Rattle.sx_dual.specs.Tables.{BoundsTable, entry_at, high_of, low_of}
use Rattle.sx_ledger.specs.declared.offer.Offer.{Offer}
use Rattle.sx_ledger.specs.Bounds.{amounts, pair_of, price_of}
use Rattle.sx_ledger.specs.Ledger.{most_offers, offered}

-- an offer of two different assets out of n
pub record IsOfPair (n : ℕ) (offer : Offer) : Type 0 where
  pub sell : offer.sell < n
  pub buy : offer.buy < n
  pub differ : offer.buy ≢ offer.sell

-- offers as a ledger with n assets has them
pub record AreOffers (n : ℕ) (offers : List Offer) : Type 0 where
  pub few : length offers ≤ most_offers
  pub pairs : All (IsOfPair n) offers
  pub in_range : (asset : ℕ) → asset < n → sum_by (offered asset) offers ≤ most_amount

-- the entry of each pair is what those of its offers are worth that pass the test
pub record AreValues (n : ℕ) (prices : List ℕ) (test : Offer → Bool) (offers : List Offer)
    (entries : List ℕ) : Type 0 where
  pub full : length entries ≡ n * n
  pub small : (place : ℕ) → slice_index entries place ≤ length offers * 2 ^ 102
  pub values : (sell buy : ℕ) → sell < n → buy < n
      → entry_at n entries sell buy ≡ price_of prices sell * amounts (filter test (pair_of sell buy offers))

-- the table has these bounds for each pair of n assets
pub record HasBounds (n : ℕ) (low high : ℕ → ℕ → ℕ) (bounds : BoundsTable) : Type 0 where
  pub same_assets : bounds.assets ≡ n
  pub is_low : EachPair n (λ sell buy. low_of bounds sell buy ≡ low sell buy)
  pub is_high : EachPair n (λ sell buy. high_of bounds sell buy ≡ high sell buy)
