-- The fills of offers of all pairs.
use Rattle.std.specs.Prelude.{ℕ, List}
use Rattle.sx_fill.specs.PairFills.{trading}
use Rattle.sx_ledger.specs.declared.fill.Fill.{Fill}
use Rattle.sx_ledger.specs.declared.offer.Offer.{Offer}
use Rattle.sx_ledger.specs.Fills.{Flow, gets, gives, value_of}

-- the value that an offer trades among all offers, with what it gives and gets
abbrev pub fill_of : List ℕ → Flow → List Offer → ℕ → Offer → Fill
fill_of prices flow offers place offer = record {
  place = place;
  value = value_of prices flow offers offer;
  gives = gives prices flow offers offer;
  gets = gets prices flow offers offer;
}

-- the fills of the offers that trade, by their places
abbrev pub all_fills : List ℕ → Flow → List Offer → List Fill
all_fills prices flow offers = trading (fill_of prices flow offers) 0 offers
