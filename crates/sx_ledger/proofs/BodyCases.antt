-- What bodies leave, computed at small cases that were worked out by hand. Those of version 2 stand in GapCases.
use Rattle.std.proofs.Common.{◌≡◌, ◌^◌, true, false, List, [], ◌∷◌, refl}
use Rattle.sx_ledger.specs.Body.{body_after, holding_of}
use Rattle.sx_ledger.specs.EffectLaws.{greatest_number, names}
use Rattle.sx_ledger.specs.Effects.{credits, debits}
use Rattle.sx_ledger.specs.Ledger.{total_of}
use Rattle.sx_ledger.proofs.CaseWords.{account, cancel, create, offer, one, opening, pay, sell_for, state, tx}
use Rattle.sx_ledger.proofs.CaseWords.{with_offer}
use Rattle.sx_tx.specs.declared.tx.Tx.{Tx}
use Rattle.sx_tx.specs.Window.{bit_length}

payment : body_after opening (tx 1 1 (pay 2 0 30) ∷ [])
    ≡ state (one ∷ []) (account 1 1 (70 ∷ []) ∷ account 2 0 (35 ∷ []) ∷ []) []
unfolding bit_length
payment = refl

payment_to_oneself : body_after opening (tx 1 1 (pay 1 0 100) ∷ [])
    ≡ state (one ∷ []) (account 1 1 (100 ∷ []) ∷ account 2 0 (5 ∷ []) ∷ []) []
unfolding bit_length
payment_to_oneself = refl

-- a sequence number that skips others, and accounts that come before, between and after the others
creations : body_after opening (tx 1 64 (create 9) ∷ tx 2 1 (create 0) ∷ [])
    ≡ state (one ∷ [])
    (account 0 0 (0 ∷ []) ∷ account 1 64 (100 ∷ []) ∷ account 2 1 (5 ∷ []) ∷ account 9 0 (0 ∷ []) ∷ []) []
unfolding bit_length
creations = refl

cancellation : body_after with_offer (tx 1 4 (cancel 0 1 (2 ^ 25) 3) ∷ [])
    ≡ state (one ∷ one ∷ []) (account 1 4 (40 ∷ 0 ∷ []) ∷ account 2 0 (7 ∷ 9 ∷ []) ∷ []) []
unfolding bit_length
cancellation = refl

-- what is credited is there to be debited, and only the sums count
paid_both_ways : body_after opening (tx 1 1 (pay 2 0 30) ∷ tx 2 1 (pay 1 0 20) ∷ [])
    ≡ state (one ∷ []) (account 1 1 (90 ∷ []) ∷ account 2 1 (15 ∷ []) ∷ []) []
unfolding bit_length
paid_both_ways = refl

spent_in_full : body_after opening (tx 1 1 (pay 2 0 30) ∷ tx 2 1 (pay 1 0 35) ∷ [])
    ≡ state (one ∷ []) (account 1 1 (105 ∷ []) ∷ account 2 1 (0 ∷ []) ∷ []) []
unfolding bit_length
spent_in_full = refl

-- the new offers stand by what is sold, what is bought, limit, account and sequence number
new_offers : body_after with_offer (tx 2 1 (sell_for 1 0 one 4) ∷ tx 2 2 (sell_for 0 1 one 5) ∷ [])
    ≡ state (one ∷ one ∷ []) (account 1 3 (0 ∷ 0 ∷ []) ∷ account 2 2 (2 ∷ 5 ∷ []) ∷ [])
    (offer 0 1 one 2 2 5 ∷ offer 0 1 (2 ^ 25) 1 3 40 ∷ offer 1 0 one 2 1 4 ∷ [])
unfolding bit_length
new_offers = refl

-- what the words of the laws mean
abbrev some_of_each : List Tx
some_of_each = tx 1 4 (cancel 0 1 (2 ^ 25) 3) ∷ tx 1 6 (pay 2 1 3) ∷ tx 2 1 (sell_for 0 1 one 5) ∷ tx 2 2 (create 9)
    ∷ []

sums : (debits some_of_each 1 1 ≡ 3) × (debits some_of_each 2 0 ≡ 5) × (debits some_of_each 2 1 ≡ 0)
    × (credits with_offer.offers some_of_each 1 0 ≡ 40) × (credits with_offer.offers some_of_each 2 1 ≡ 3)
    × (credits [] some_of_each 1 0 ≡ 0)
sums = (refl, refl, refl, refl, refl, refl)

greatest : (greatest_number some_of_each 1 ≡ 6) × (greatest_number some_of_each 2 ≡ 2)
    × (greatest_number some_of_each 9 ≡ 0)
greatest = (refl, refl, refl)

-- a transaction names its account and its payee, and no other
named : (names 1 (tx 1 6 (pay 2 1 3)) ≡ true) × (names 2 (tx 1 6 (pay 2 1 3)) ≡ true)
    × (names 3 (tx 1 6 (pay 2 1 3)) ≡ false) × (names 9 (tx 2 2 (create 9)) ≡ false)
    × (names 1 (tx 2 1 (sell_for 0 1 one 5)) ≡ false) × (names 2 (tx 1 4 (cancel 0 1 one 3)) ≡ false)
named = (refl, refl, refl, refl, refl, refl)

-- an account that is not there holds nothing
holdings : (holding_of with_offer.accounts 2 1 ≡ 9) × (holding_of with_offer.accounts 9 1 ≡ 0)
holdings = (refl, refl)

-- what there is of the first asset: in balances and on offer
total : total_of with_offer 0 ≡ 47
total = refl
