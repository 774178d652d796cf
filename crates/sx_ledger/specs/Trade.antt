-- What trading leaves of a ledger after the body.
use Rattle.std.specs.Prelude.{ℕ, suc, ◌+◌, ◌-◌, List, [], ◌∷◌, map, nat_lt, ◌==◌, ◌&&◌, if◌then◌else◌}
use Rattle.std.specs.List.{filter, sum_by}
use Rattle.sx_ledger.specs.declared.account.Account.{Account}
use Rattle.sx_ledger.specs.declared.offer.Offer.{Offer}
use Rattle.sx_ledger.specs.declared.parts.Parts.{Parts}
use Rattle.sx_ledger.specs.Fills.{Flow, gives, gets}

-- an offer loses what it gives
abbrev pub offer_traded : List ℕ → Flow → List Offer → Offer → Offer
offer_traded prices flow offers offer = record {
  sell = offer.sell;
  buy = offer.buy;
  limit = offer.limit;
  account = offer.account;
  seq = offer.seq;
  amount = offer.amount - gives prices flow offers offer;
}

-- and is gone where nothing is left of it
abbrev pub offers_traded : List ℕ → Flow → List Offer → List Offer
offers_traded prices flow offers =
    filter (λ offer. nat_lt 0 offer.amount) (map (offer_traded prices flow offers) offers)

-- what the offers of an account get of an asset
abbrev pub proceeds : List ℕ → Flow → List Offer → ℕ → ℕ → ℕ
proceeds prices flow offers account asset =
    sum_by
    (λ offer. if (offer.account.0 == account) && (offer.buy == asset) then gets prices flow offers offer else 0)
    offers

-- the balances from an asset on, with the proceeds
abbrev pub balances_traded : List ℕ → Flow → List Offer → ℕ → ℕ → List ℕ → List ℕ
balances_traded prices flow offers account asset [] = []
balances_traded prices flow offers account asset (balance ∷ balances) =
    (balance + proceeds prices flow offers account asset)
    ∷ balances_traded prices flow offers account (suc asset) balances

abbrev pub account_traded : List ℕ → Flow → List Offer → Account → Account
account_traded prices flow offers account = record {
  id = account.id;
  window = account.window;
  balances = balances_traded prices flow offers account.id.0 0 account.balances;
}

-- one number of each list added to the other
abbrev pub added : List ℕ → List ℕ → List ℕ
added [] others = []
added (x ∷ xs) [] = []
added (x ∷ xs) (y ∷ ys) = (x + y) ∷ added xs ys

-- the ledger after trading at these prices: offers give, sellers are credited, the rounding of the block is kept, the
-- prices are the ledger's, and the height rises by one
abbrev pub traded : Parts → List ℕ → Flow → List ℕ → Parts
traded parts prices flow rounding = record {
  version = parts.version;
  height = parts.height + 1;
  prices = prices;
  rounding = added parts.rounding rounding;
  accounts = map (account_traded prices flow parts.offers) parts.accounts;
  offers = offers_traded prices flow parts.offers;
}
