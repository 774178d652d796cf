-- The fills of a pair, taken alone, are those among all offers.
use Rattle.std.proofs.Common.{◌≡◌, ℕ, Bool, eqb, ◌&&◌, List, true, refl}
use Rattle.std.proofs.lemmas.Bool.{and_parts, eqb-true}
use Rattle.std.proofs.lemmas.List.Elements.{filter_passes}
use Rattle.sx_fill.specs.AllFills.{fill_of}
use Rattle.sx_fill.specs.Laws.{PairFillsAreTheirs}
use Rattle.sx_fill.specs.PairFills.{pair_fill}
use Rattle.sx_ledger.specs.declared.offer.Offer.{Offer}
use Rattle.sx_ledger.specs.Bounds.{pair_of, price_of}
use Rattle.sx_ledger.specs.Fills.{Flow}

of_pair : ℕ → ℕ → Offer → Bool
of_pair sell buy offer = eqb offer.sell sell && eqb offer.buy buy

pub theirs : (prices : List ℕ) (flow : Flow) (offers : List Offer) (sell buy place : ℕ) (o : Offer)
    → (eqb o.sell sell && eqb o.buy buy) ≡ true
    → pair_fill (price_of prices sell) (price_of prices buy) (flow sell buy) (pair_of sell buy offers) place o
    ≡ fill_of prices flow offers place o
theirs prices flow offers sell buy place o e =
    let p = and_parts (eqb o.sell sell) (eqb o.buy buy) e in
    rw (eqb-true o.sell sell p.0, eqb-true o.buy buy p.1) refl

pub pair_fills_are_theirs : PairFillsAreTheirs
pair_fills_are_theirs prices flow offers sell buy place k d lt =
    theirs prices flow offers sell buy place _
    (filter_passes (λ (o : Offer). eqb o.sell sell && eqb o.buy buy) offers k d lt)
