-- What offers say of price and amount, and the prices that are searched from it.
use Rattle.std.specs.Prelude.{ℕ, List, map}
use Rattle.sx_curve.specs.declared.quote.Quote.{Quote}
use Rattle.sx_curve.specs.Demand.{imbalance}
use Rattle.sx_curve.specs.Search.{searched_prices}
use Rattle.sx_ledger.specs.declared.offer.Offer.{Offer}
use Rattle.sx_ledger.specs.declared.parts.Parts.{Parts}
use Rattle.sx_ledger.specs.Body.{body_after}
use Rattle.sx_multi.specs.Posted.{posted}
use Rattle.sx_tx.specs.declared.tx.Tx.{Tx}

abbrev pub quote_of : Offer → Quote
quote_of offer = record { sell = offer.sell; buy = offer.buy; limit = offer.limit; amount = offer.amount }

abbrev pub quotes_of : List Offer → List Quote
quotes_of offers = map quote_of offers

-- the prices that the search from those of the ledger ends at, by the offers after these transactions
abbrev pub searched_at : Parts → List Tx → ℕ → ℕ → List ℕ
searched_at parts txs j rounds = searched_prices (quotes_of (body_after parts txs).offers) parts.prices j rounds

-- the prices of the best of so many searches from those of the ledger, by the offers after these transactions
abbrev pub posted_at : Parts → List Tx → ℕ → ℕ → ℕ → List ℕ
posted_at parts txs j rounds searches = posted (quotes_of (body_after parts txs).offers) parts.prices j rounds searches

-- how far all assets are from balance at these prices, by the offers after these transactions
abbrev pub imbalance_at : Parts → List Tx → ℕ → List ℕ → ℕ
imbalance_at parts txs j prices = imbalance (quotes_of (body_after parts txs).offers) prices j
