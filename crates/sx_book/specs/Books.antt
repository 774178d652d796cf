-- What a contract sees of `Books`, and what the calls make of it.
use Rattle.std.specs.Prelude.{◌≡◌, ◌≢◌, ℕ, suc, ◌-◌, ◌^◌, ◌<◌, ◌≤◌, IsTrue, not, List, [], ◌∷◌, length, map, None}
use Rattle.std.specs.Prelude.{nat_lt, slice_get, IsSomeAnd, ◌==◌, if◌then◌else◌}
use Rattle.std.specs.List.{All, Contains, filter, sum_by}
use Rattle.sx_base.specs.Ranges.{most_assets}
use Rattle.sx_bytes.specs.Grammar.{in_order}
use Rattle.sx_ledger.specs.declared.fill.Fill.{Fill}
use Rattle.sx_ledger.specs.declared.key.Key.{Key}
use Rattle.sx_ledger.specs.declared.offer.Offer.{Offer}
use Rattle.sx_ledger.specs.Ledger.{keys}
use Rattle.sx_ledger.specs.Order.{key_before, key_of, same_key}

-- how many assets there are, and the offers of all pairs in the order of their keys
pub record Book : Type 0 where
  pub assets : ℕ
  pub offers : List Offer

-- ---- what books keep

-- the most offers
abbrev pub most_offers : ℕ
most_offers = 2 ^ 31

-- an offer of two different assets out of `assets`
pub record IsListed (assets : ℕ) (offer : Offer) : Type 0 where
  pub sell : offer.sell < assets
  pub buy : offer.buy < assets
  pub differ : offer.buy ≢ offer.sell

pub record IsBook (book : Book) : Type 0 where
  pub some_asset : 1 ≤ book.assets
  pub few_assets : book.assets ≤ most_assets
  pub few_offers : length book.offers ≤ most_offers
  pub listed : All (IsListed book.assets) book.offers
  pub amounts : All (λ offer. 1 ≤ offer.amount) book.offers
  pub by_key : IsTrue (in_order key_before None (keys book.offers))

-- some offer has this key
abbrev pub has_key : Book → Key → Type 0
has_key book key = Contains (keys book.offers) key

-- ---- what calls make of the offers

-- the offers but that of a key
abbrev pub without : Key → List Offer → List Offer
without key offers = filter (λ offer. not (same_key (key_of offer) key)) offers

-- an offer less some units of what it sells
abbrev pub less : Offer → ℕ → Offer
less offer units = record {
  sell = offer.sell;
  buy = offer.buy;
  limit = offer.limit;
  account = offer.account;
  seq = offer.seq;
  amount = offer.amount - units;
}

-- what fills give at a place
abbrev pub given_at : List Fill → ℕ → ℕ
given_at fills place = sum_by (λ fill. if fill.place == place then fill.gives else 0) fills

-- what is left of the offers of a pair, which begin at a place: each loses what the fills give at its place, and is
-- gone where nothing is left of it
abbrev pub left_from : List Fill → ℕ → List Offer → List Offer
left_from fills place [] = []
left_from fills place (offer ∷ offers) =
    if nat_lt (given_at fills place) offer.amount
    then less offer (given_at fills place) ∷ left_from fills (suc place) offers
    else left_from fills (suc place) offers

abbrev pub left_by : List Fill → List Offer → List Offer
left_by fills offers = left_from fills 0 offers

-- ---- which fills a pair takes

abbrev pub places : List Fill → List ℕ
places fills = map (λ fill. fill.place) fills

-- the fill is of one of these offers, and gives at most what it has
abbrev pub Fits : List Offer → Fill → Type 0
Fits offers fill = IsSomeAnd (slice_get offers fill.place) (λ offer. fill.gives ≤ offer.amount)
