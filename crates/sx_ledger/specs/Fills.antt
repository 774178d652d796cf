-- What each offer trades where its pair trades a given value, and what rounding keeps.
use Rattle.std.specs.Prelude.{◌≡◌, ℕ, ◌+◌, ◌-◌, ◌*◌, min, List, ◌==◌, if◌then◌else◌}
use Rattle.std.specs.List.{filter, sum_by}
use Rattle.sx_ledger.specs.declared.offer.Offer.{Offer}
use Rattle.sx_ledger.specs.Bounds.{price_of, pair_of, amounts}
use Rattle.sx_ledger.specs.Order.{offer_before}
use Rattle.sx_price.specs.Rounding.{rounded_up, rounded_down}

-- the value that each ordered pair trades
abbrev pub Flow : Type 0
Flow = ℕ → ℕ → ℕ

-- what stands before an offer in its pair
abbrev pub ahead_of : List Offer → Offer → ℕ
ahead_of offers offer = amounts (filter (λ other. offer_before other offer) (pair_of offer.sell offer.buy offers))

-- the value that an offer trades: what is left by those before it, up to its whole amount
abbrev pub value_of : List ℕ → Flow → List Offer → Offer → ℕ
value_of prices flow offers offer =
    min (flow offer.sell offer.buy - price_of prices offer.sell * ahead_of offers offer)
    (price_of prices offer.sell * offer.amount)

-- the units of the sold asset that an offer gives, and of the bought asset that it gets
abbrev pub gives : List ℕ → Flow → List Offer → Offer → ℕ
gives prices flow offers offer = rounded_up (value_of prices flow offers offer) (price_of prices offer.sell)

abbrev pub gets : List ℕ → Flow → List Offer → Offer → ℕ
gets prices flow offers offer = rounded_down (value_of prices flow offers offer) (price_of prices offer.buy)

-- what all offers give and get of an asset
abbrev pub given : List ℕ → Flow → List Offer → ℕ → ℕ
given prices flow offers asset =
    sum_by (λ offer. if offer.sell == asset then gives prices flow offers offer else 0) offers

abbrev pub got : List ℕ → Flow → List Offer → ℕ → ℕ
got prices flow offers asset =
    sum_by (λ offer. if offer.buy == asset then gets prices flow offers offer else 0) offers

-- what a block keeps of an asset by rounding: what was given less what was got
abbrev pub IsRounding : List ℕ → Flow → List Offer → ℕ → ℕ → Type 0
IsRounding prices flow offers asset units = given prices flow offers asset ≡ got prices flow offers asset + units
