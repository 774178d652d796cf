-- The least and the greatest value that each pair of assets may trade, over the offers after the body.
use Rattle.std.specs.Prelude.{ℕ, ◌*◌, Bool, List, slice_index, ◌==◌, ◌&&◌, if◌then◌else◌}
use Rattle.std.specs.List.{filter, sum_by}
use Rattle.sx_ledger.specs.declared.offer.Offer.{Offer}
use Rattle.sx_price.specs.Limits.{may_trade, must_trade}

abbrev pub price_of : List ℕ → ℕ → ℕ
price_of prices asset = slice_index prices asset

-- the offer may trade at these prices
abbrev pub may_trade_at : List ℕ → Offer → Bool
may_trade_at prices offer = may_trade (price_of prices offer.sell) (price_of prices offer.buy) offer.limit

-- the offer must trade at these prices, where μ is 2 ^ -j
abbrev pub must_trade_at : List ℕ → ℕ → Offer → Bool
must_trade_at prices j offer = must_trade (price_of prices offer.sell) (price_of prices offer.buy) offer.limit j

-- the offers that sell one asset for another
abbrev pub pair_of : ℕ → ℕ → List Offer → List Offer
pair_of sell buy offers = filter (λ offer. (offer.sell == sell) && (offer.buy == buy)) offers

-- what offers have in all
abbrev pub amounts : List Offer → ℕ
amounts offers = sum_by (λ offer. offer.amount) offers

-- the greatest value of a pair: of all its offers that may trade
abbrev pub high_of : List ℕ → List Offer → ℕ → ℕ → ℕ
high_of prices offers sell buy =
    price_of prices sell * amounts (filter (may_trade_at prices) (pair_of sell buy offers))

-- the least value of a pair: of all its offers that must trade, or 0 where the lower bounds are dropped
abbrev pub low_of : List ℕ → ℕ → Bool → List Offer → ℕ → ℕ → ℕ
low_of prices j dropped offers sell buy =
    if dropped then 0 else price_of prices sell * amounts (filter (must_trade_at prices j) (pair_of sell buy offers))
