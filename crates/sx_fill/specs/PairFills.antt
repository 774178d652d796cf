-- What each offer of one pair trades, and lists of fills.
use Rattle.std.specs.Prelude.{ℕ, suc, ◌-◌, ◌*◌, min, List, [], ◌∷◌, nat_lt, if◌then◌else◌}
use Rattle.std.specs.List.{filter}
use Rattle.sx_ledger.specs.declared.fill.Fill.{Fill}
use Rattle.sx_ledger.specs.declared.offer.Offer.{Offer}
use Rattle.sx_ledger.specs.Bounds.{amounts}
use Rattle.sx_ledger.specs.Order.{offer_before}
use Rattle.sx_price.specs.Rounding.{rounded_up, rounded_down}

-- the fills of the offers that trade a value above 0, where the first offer is at this place
abbrev pub trading : (ℕ → Offer → Fill) → ℕ → List Offer → List Fill
trading fill place [] = []
trading fill place (offer ∷ offers) =
    if nat_lt 0 (fill place offer).value then fill place offer ∷ trading fill (suc place) offers else
    trading fill (suc place) offers

-- the value that an offer trades, where its pair trades y at this price of the sold asset: what is left by the offers
-- of the pair that stand before it, up to its whole amount
abbrev pub pair_value : ℕ → ℕ → List Offer → Offer → ℕ
pair_value sell y offers offer =
    min (y - sell * amounts (filter (λ other. offer_before other offer) offers)) (sell * offer.amount)

-- and what it gives and gets for it
abbrev pub pair_fill : ℕ → ℕ → ℕ → List Offer → ℕ → Offer → Fill
pair_fill sell buy y offers place offer = record {
  place = place;
  value = pair_value sell y offers offer;
  gives = rounded_up (pair_value sell y offers offer) sell;
  gets = rounded_down (pair_value sell y offers offer) buy;
}
