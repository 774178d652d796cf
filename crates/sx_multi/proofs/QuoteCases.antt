-- What is searched of a small ledger and a body, worked out by hand. Prices and limits are in units of 2 ^ -24.
use Rattle.std.proofs.Common.{◌≡◌, ℕ, ◌^◌, List, [], ◌∷◌, refl}
use Rattle.sx_multi.specs.Quotes.{imbalance_at, quote_of, searched_at}
use Rattle.sx_curve.specs.declared.quote.Quote.{Quote}
use Rattle.sx_curve.specs.Demand.{imbalance}
use Rattle.sx_curve.specs.Search.{searched_prices}
use Rattle.sx_ledger.proofs.CaseWords.{account, cancel, offer, one, sell_for, state, tx}
use Rattle.sx_ledger.specs.declared.parts.Parts.{Parts}
use Rattle.sx_tx.specs.declared.tx.Tx.{Tx}
use Rattle.sx_tx.specs.Window.{bit_length}

abbrev quote : ℕ → ℕ → ℕ → ℕ → Quote
quote sell buy limit amount = record { sell = sell; buy = buy; limit = limit; amount = amount }

-- a quote says nothing of the account, nor of the number
of_an_offer : quote_of (offer 3 5 7 11 13 17) ≡ quote 3 5 7 17
of_an_offer = refl

-- two assets at the prices 1 and 2; account 1 has two offers
abbrev market : Parts
market =
    state (one ∷ 2 ^ 25 ∷ []) (account 1 4 (0 ∷ 0 ∷ []) ∷ account 2 0 (7 ∷ 9 ∷ []) ∷ [])
    (offer 0 1 (2 ^ 25) 1 3 40 ∷ offer 0 1 (2 ^ 26) 1 4 50 ∷ [])

-- account 1 cancels one of them, and account 2 makes another
abbrev body : List Tx
body = tx 1 5 (cancel 0 1 (2 ^ 26) 4) ∷ tx 2 1 (sell_for 1 0 one 4) ∷ []

abbrev quotes : List Quote
quotes = quote 0 1 (2 ^ 25) 40 ∷ quote 1 0 one 4 ∷ []

-- from the prices of the ledger, by the offers after the body
from_the_ledger : (j rounds : ℕ) →
    searched_at market body j rounds ≡ searched_prices quotes (one ∷ 2 ^ 25 ∷ []) j rounds
unfolding bit_length
from_the_ledger j rounds = refl

left_to_balance : (j : ℕ) (prices : List ℕ) → imbalance_at market body j prices ≡ imbalance quotes prices j
unfolding bit_length
left_to_balance j prices = refl
