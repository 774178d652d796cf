-- What fills give and get in all, where each names its offer by its place in a list.
use Rattle.std.specs.Prelude.{ℕ, suc, ◌+◌, List, [], ◌∷◌, Option, None, Some, slice_get, ◌==◌, ◌&&◌, if◌then◌else◌}
use Rattle.std.specs.List.{sum_by}
use Rattle.sx_ledger.specs.declared.account.Account.{Account}
use Rattle.sx_ledger.specs.declared.fill.Fill.{Fill}
use Rattle.sx_ledger.specs.declared.offer.Offer.{Offer}

-- a number of an offer, 0 where there is none
abbrev pub of_offer : (Offer → ℕ) → Option Offer → ℕ
of_offer f None = 0
of_offer f (Some offer) = f offer

-- what fills give of an asset
abbrev pub given_by : List Offer → List Fill → ℕ → ℕ
given_by offers fills asset =
    sum_by
    (λ fill. of_offer (λ offer. if offer.sell == asset then fill.gives else 0) (slice_get offers fill.place))
    fills

-- and what they get of it
abbrev pub got_by : List Offer → List Fill → ℕ → ℕ
got_by offers fills asset =
    sum_by
    (λ fill. of_offer (λ offer. if offer.buy == asset then fill.gets else 0) (slice_get offers fill.place))
    fills

-- what the fills of an account's offers get of an asset
abbrev pub proceeds_by : List Offer → List Fill → ℕ → ℕ → ℕ
proceeds_by offers fills account asset =
    sum_by
    (λ fill.
    of_offer (λ offer. if (offer.account.0 == account) && (offer.buy == asset) then fill.gets else 0)
    (slice_get offers fill.place))
    fills

-- the balances from an asset on, each with what is got of its asset
abbrev pub balances_paid : (ℕ → ℕ) → ℕ → List ℕ → List ℕ
balances_paid got asset [] = []
balances_paid got asset (balance ∷ balances) = (balance + got asset) ∷ balances_paid got (suc asset) balances

-- an account that gets what the fills of its offers get
abbrev pub paid_by : List Offer → List Fill → Account → Account
paid_by offers fills account = record {
  id = account.id;
  window = account.window;
  balances = balances_paid (proceeds_by offers fills account.id.0) 0 account.balances;
}
