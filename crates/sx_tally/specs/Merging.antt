-- Offers that are made, put among those that are kept.
use Rattle.std.specs.Prelude.{ℕ, List, [], ◌∷◌, ◌++◌, drop, take}
use Rattle.std.specs.List.{prefix_len}
use Rattle.sx_ledger.specs.declared.offer.Offer.{Offer}
use Rattle.sx_ledger.specs.Order.{offer_before}

-- how many offers, from the first one on, stand before this one
abbrev pub count_before : Offer → List Offer → ℕ
count_before offer offers = prefix_len (λ one. offer_before one offer) offers

-- Kept offers and made ones in one list. In front of each kept offer are the made ones, from the first one on, that
-- stand before it. Those that are left come last.
abbrev pub merged : List Offer → List Offer → List Offer
merged [] made = made
merged (offer ∷ kept) made =
    take (count_before offer made) made ++ offer ∷ merged kept (drop (count_before offer made) made)
