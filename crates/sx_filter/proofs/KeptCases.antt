-- What is kept of candidates, computed at cases that were worked out by hand.
use Rattle.std.proofs.Common.{◌≡◌, ◌^◌, ℕ, List, [], ◌∷◌, refl}
use Rattle.sx_filter.specs.Kept.{kept_of}
use Rattle.sx_ledger.specs.declared.account.Account.{Account}
use Rattle.sx_ledger.specs.declared.parts.Parts.{Parts}
use Rattle.sx_tx.specs.declared.kind.Kind.{Kind}
use Rattle.sx_tx.specs.declared.kind.Kind.TheVariants as kind
use Rattle.sx_tx.specs.declared.tx.Tx.{Tx}

abbrev account : ℕ → ℕ → ℕ → List ℕ → Account
account id last used balances =
    record { id = record { 0 = id }; window = record { last = last; used = used }; balances = balances }

-- one asset; account 1 holds 100 units of it, and account 2 holds 5
abbrev ledger : Parts
ledger = record {
  version = 1;
  height = 0;
  prices = 2 ^ 24 ∷ [];
  rounding = 0 ∷ [];
  accounts = account 1 0 0 (100 ∷ []) ∷ account 2 0 0 (5 ∷ []) ∷ [];
  offers = [];
}

abbrev tx : ℕ → ℕ → Kind → Tx
tx account seq of = record { account = record { 0 = account }; seq = seq; kind = of }

abbrev pays : ℕ → ℕ → ℕ → ℕ → Tx
pays from seq to amount = tx from seq (kind.Pay 0 (record { 0 = to }) amount)

abbrev creates : ℕ → ℕ → ℕ → Tx
creates from seq id = tx from seq (kind.Create (record { 0 = id }))

-- ---- payments

-- two payments of 60 out of 100 units fall out together
two_of_sixty : kept_of ledger (pays 1 1 2 60 ∷ pays 1 2 2 60 ∷ []) ≡ []
two_of_sixty = refl

-- the payment of another account stays, in each of the six orders
abbrev small : List Tx
small = pays 2 1 1 5 ∷ []

beside_them :
    (kept_of ledger (pays 1 1 2 60 ∷ pays 1 2 2 60 ∷ pays 2 1 1 5 ∷ []) ≡ small)
    × (kept_of ledger (pays 1 1 2 60 ∷ pays 2 1 1 5 ∷ pays 1 2 2 60 ∷ []) ≡ small)
    × (kept_of ledger (pays 2 1 1 5 ∷ pays 1 1 2 60 ∷ pays 1 2 2 60 ∷ []) ≡ small)
    × (kept_of ledger (pays 1 2 2 60 ∷ pays 1 1 2 60 ∷ pays 2 1 1 5 ∷ []) ≡ small)
    × (kept_of ledger (pays 1 2 2 60 ∷ pays 2 1 1 5 ∷ pays 1 1 2 60 ∷ []) ≡ small)
    × (kept_of ledger (pays 2 1 1 5 ∷ pays 1 2 2 60 ∷ pays 1 1 2 60 ∷ []) ≡ small)
beside_them = (refl, refl, refl, refl, refl, refl)

-- all that an account holds may be paid, also to itself
all_of_it : kept_of ledger (pays 1 1 1 60 ∷ pays 1 2 2 40 ∷ []) ≡ pays 1 1 1 60 ∷ pays 1 2 2 40 ∷ []
all_of_it = refl

-- a payment that the ledger refuses, of number 65, counts for nothing
refused_counts_nothing : kept_of ledger (pays 1 65 2 60 ∷ pays 1 2 2 60 ∷ []) ≡ pays 1 2 2 60 ∷ []
refused_counts_nothing = refl

-- a candidate that the ledger refuses stands in nobody's way: not by its number, and not by the account that it creates
refused_has_no_number : kept_of ledger (pays 1 1 9 5 ∷ pays 1 1 2 5 ∷ []) ≡ pays 1 1 2 5 ∷ []
refused_has_no_number = refl

refused_creates_nothing : kept_of ledger (creates 1 65 9 ∷ creates 2 1 9 ∷ []) ≡ creates 2 1 9 ∷ []
refused_creates_nothing = refl

-- one that falls out for its number counts: account 1 has 60 and 50 to pay
fallen_counts : kept_of ledger (pays 1 1 2 60 ∷ creates 1 1 9 ∷ pays 1 2 2 50 ∷ []) ≡ []
fallen_counts = refl

-- where an account is overdrawn, its creations fall out too
creation_falls : kept_of ledger (pays 1 1 2 101 ∷ creates 1 2 9 ∷ creates 2 1 8 ∷ []) ≡ creates 2 1 8 ∷ []
creation_falls = refl

-- ---- collisions

-- two of one account and number fall out, whatever they are
one_number : kept_of ledger (pays 1 1 2 10 ∷ creates 1 1 9 ∷ pays 1 2 2 10 ∷ []) ≡ pays 1 2 2 10 ∷ []
one_number = refl

-- and so do two that create one account; numbers of two accounts may be the same
one_id : kept_of ledger (creates 2 1 9 ∷ creates 1 1 9 ∷ creates 1 2 8 ∷ pays 2 2 1 1 ∷ [])
    ≡ creates 1 2 8 ∷ pays 2 2 1 1 ∷ []
one_id = refl

-- two assets; account 1 has an offer of its number 3, and one of its number 2
abbrev offered : Parts
offered = record {
  version = 1;
  height = 0;
  prices = 2 ^ 24 ∷ 2 ^ 24 ∷ [];
  rounding = 0 ∷ 0 ∷ [];
  accounts = account 1 3 0 (10 ∷ 0 ∷ []) ∷ account 2 0 0 (0 ∷ 7 ∷ []) ∷ [];
  offers =
      record { sell = 0; buy = 1; limit = 2 ^ 24; account = record { 0 = 1 }; seq = 2; amount = 40 }
      ∷ record { sell = 0; buy = 1; limit = 2 ^ 24; account = record { 0 = 1 }; seq = 3; amount = 40 }
      ∷ [];
}

abbrev cancels : ℕ → ℕ → Tx
cancels seq of = tx 1 seq (kind.Cancel 0 1 (2 ^ 24) of)

-- two that cancel one offer fall out; what a cancellation credits may not be spent
one_offer : kept_of offered (cancels 4 3 ∷ cancels 5 3 ∷ cancels 6 2 ∷ []) ≡ cancels 6 2 ∷ []
one_offer = refl

-- one that the ledger refuses, of number 70, cancels nothing
refused_cancels_nothing : kept_of offered (cancels 4 3 ∷ cancels 70 3 ∷ []) ≡ cancels 4 3 ∷ []
refused_cancels_nothing = refl

not_spent : kept_of offered (cancels 4 3 ∷ tx 1 5 (kind.Pay 0 (record { 0 = 2 }) 11) ∷ []) ≡ []
not_spent = refl

-- the assets of an account count apart, but one that is short takes all of the account's candidates with it
assets_apart : kept_of offered (tx 2 1 (kind.Pay 1 (record { 0 = 1 }) 8) ∷ tx 2 2
    (kind.Create (record { 0 = 9 })) ∷ cancels 4 3 ∷ [])
    ≡ cancels 4 3 ∷ []
assets_apart = refl

-- by account and then by number, not by number alone
by_account : kept_of ledger (pays 2 1 1 1 ∷ pays 1 3 2 1 ∷ pays 1 2 2 1 ∷ [])
    ≡ pays 1 2 2 1 ∷ pays 1 3 2 1 ∷ pays 2 1 1 1 ∷ []
by_account = refl

-- offers that differ in one of their numbers are not one offer: here what is bought and sold, the limit, the account
-- or the number
abbrev apart : Parts
apart = record {
  version = 1;
  height = 0;
  prices = 2 ^ 24 ∷ 2 ^ 24 ∷ 2 ^ 24 ∷ [];
  rounding = 0 ∷ 0 ∷ 0 ∷ [];
  accounts = account 1 4 0 (0 ∷ 0 ∷ 0 ∷ []) ∷ account 2 4 0 (0 ∷ 0 ∷ 0 ∷ []) ∷ [];
  offers =
      record { sell = 0; buy = 1; limit = 2 ^ 24; account = record { 0 = 1 }; seq = 3; amount = 40 }
      ∷ record { sell = 0; buy = 1; limit = 2 ^ 24; account = record { 0 = 1 }; seq = 4; amount = 40 }
      ∷ record { sell = 0; buy = 1; limit = 2 ^ 24; account = record { 0 = 2 }; seq = 3; amount = 40 }
      ∷ record { sell = 0; buy = 1; limit = 2 ^ 25; account = record { 0 = 1 }; seq = 3; amount = 40 }
      ∷ record { sell = 0; buy = 2; limit = 2 ^ 24; account = record { 0 = 1 }; seq = 3; amount = 40 }
      ∷ record { sell = 2; buy = 1; limit = 2 ^ 24; account = record { 0 = 1 }; seq = 3; amount = 40 }
      ∷ [];
}

abbrev six : List Tx
six =
    tx 1 5 (kind.Cancel 0 1 (2 ^ 24) 3) ∷ tx 1 6 (kind.Cancel 0 1 (2 ^ 24) 4) ∷ tx 1 7 (kind.Cancel 0 1 (2 ^ 25) 3)
    ∷ tx 1 8 (kind.Cancel 0 2 (2 ^ 24) 3) ∷ tx 1 9 (kind.Cancel 2 1 (2 ^ 24) 3) ∷ tx 2 5 (kind.Cancel 0 1 (2 ^ 24) 3)
    ∷ []

six_offers : kept_of apart six ≡ six
six_offers = refl
