-- Short words for the values of the computed cases. Prices and limits are in units of 2 ^ -24.
use Rattle.std.proofs.Common.{ℕ, ◌^◌, List, [], ◌∷◌}
use Rattle.sx_ledger.specs.declared.account.Account.{Account}
use Rattle.sx_ledger.specs.declared.offer.Offer.{Offer}
use Rattle.sx_ledger.specs.declared.parts.Parts.{Parts}
use Rattle.sx_tx.specs.declared.kind.Kind.{Kind}
use Rattle.sx_tx.specs.declared.kind.Kind.TheVariants as kind
use Rattle.sx_tx.specs.declared.tx.Tx.{Tx}

abbrev pub one : ℕ
one = 2 ^ 24

abbrev pub account : ℕ → ℕ → List ℕ → Account
account id last balances = record {
  id = record { 0 = id };
  window = record { last = last; used = 0 };
  balances = balances;
}

-- the same, with numbers above the last one that are used
abbrev pub gapped : ℕ → ℕ → ℕ → List ℕ → Account
gapped id last used balances =
    record { id = record { 0 = id }; window = record { last = last; used = used }; balances = balances }

abbrev pub offer : ℕ → ℕ → ℕ → ℕ → ℕ → ℕ → Offer
offer sell buy limit id seq amount =
    record { sell = sell; buy = buy; limit = limit; account = record { 0 = id }; seq = seq; amount = amount }

abbrev pub tx : ℕ → ℕ → Kind → Tx
tx id seq kind = record { account = record { 0 = id }; seq = seq; kind = kind }

abbrev pub pay : ℕ → ℕ → ℕ → Kind
pay to asset amount = kind.Pay asset (record { 0 = to }) amount

abbrev pub create : ℕ → Kind
create id = kind.Create (record { 0 = id })

abbrev pub cancel : ℕ → ℕ → ℕ → ℕ → Kind
cancel sell buy limit seq = kind.Cancel sell buy limit seq

abbrev pub sell_for : ℕ → ℕ → ℕ → ℕ → Kind
sell_for sell buy limit amount = kind.Offer sell buy limit amount

abbrev zeros : List ℕ → List ℕ
zeros [] = []
zeros (x ∷ xs) = 0 ∷ zeros xs

-- a ledger of height 0 without rounding
abbrev pub state : List ℕ → List Account → List Offer → Parts
state prices accounts offers =
    record { version = 1; height = 0; prices = prices; rounding = zeros prices; accounts = accounts; offers = offers }

-- the same in version 2
abbrev pub newer : List ℕ → List Account → List Offer → Parts
newer prices accounts offers =
    record { version = 2; height = 0; prices = prices; rounding = zeros prices; accounts = accounts; offers = offers }

-- one asset; account 1 has 100, account 2 has 5
abbrev pub opening : Parts
opening = state (one ∷ []) (account 1 0 (100 ∷ []) ∷ account 2 0 (5 ∷ []) ∷ []) []

-- version 2, one asset; account 1 used 9 and 10 and not 8
abbrev pub with_gap : Parts
with_gap = newer (one ∷ []) (gapped 1 7 6 (100 ∷ []) ∷ account 2 0 (5 ∷ []) ∷ []) []

-- two assets; account 1 has 40 of the first on offer
abbrev pub with_offer : Parts
with_offer =
    state (one ∷ one ∷ []) (account 1 3 (0 ∷ 0 ∷ []) ∷ account 2 0 (7 ∷ 9 ∷ []) ∷ []) (offer 0 1 (2 ^ 25) 1 3 40 ∷ [])
