-- What ties the fills of a pair to those of all offers.
use Rattle.std.specs.Prelude.{◌≡◌, ℕ, List}
use Rattle.std.specs.List.{All}
use Rattle.sx_fill.specs.AllFills.{fill_of}
use Rattle.sx_fill.specs.PairFills.{pair_fill}
use Rattle.sx_ledger.specs.declared.offer.Offer.{Offer}
use Rattle.sx_ledger.specs.Bounds.{pair_of, price_of}
use Rattle.sx_ledger.specs.Fills.{Flow}

-- the offers of a pair, taken alone, trade what they trade among all offers
abbrev pub PairFillsAreTheirs : Type 0
PairFillsAreTheirs =
    (prices : List ℕ) (flow : Flow) (offers : List Offer) (sell buy place : ℕ) →
    All (λ offer.
    pair_fill (price_of prices sell) (price_of prices buy) (flow sell buy) (pair_of sell buy offers) place offer
    ≡ fill_of prices flow offers place offer) (pair_of sell buy offers)
