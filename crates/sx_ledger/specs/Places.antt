-- Where a transaction's account and what it names stand in a ledger.
use Rattle.std.specs.Prelude.{◌≡◌, ℕ, List, Option, Some, None, Result, Ok, Err, slice_get, Contains, IfSome, IfNone}
use Rattle.sx_base.specs.declared.account_id.AccountId.{AccountId}
use Rattle.sx_ledger.specs.declared.key.Key.{Key}
use Rattle.sx_ledger.specs.declared.parts.Parts.{Parts}
use Rattle.sx_ledger.specs.declared.places.Places.{Places}
use Rattle.sx_ledger.specs.declared.places.Target.{Target}
use Rattle.sx_ledger.specs.declared.places.Target.TheVariants as target
use Rattle.sx_ledger.specs.declared.statics.Static.{Static}
use Rattle.sx_ledger.specs.Ledger.{ids, keys}
use Rattle.sx_tx.specs.declared.kind.Kind.{Kind}
use Rattle.sx_tx.specs.declared.kind.Kind.TheVariants as kind
use Rattle.sx_tx.specs.declared.tx.Tx.{Tx}

-- the target is an account of this id
abbrev pub IsPayee : Parts → ℕ → Target → Type 0
IsPayee parts id target.Nothing = ⊥
IsPayee parts id (target.Payee place) = slice_get (ids parts.accounts) place ≡ Some id
IsPayee parts id (target.Offer place) = ⊥

-- the target is an offer of this key
abbrev pub IsNamedOffer : Parts → Key → Target → Type 0
IsNamedOffer parts key target.Nothing = ⊥
IsNamedOffer parts key (target.Payee place) = ⊥
IsNamedOffer parts key (target.Offer place) = slice_get (keys parts.offers) place ≡ Some key

-- what a transaction of this account and kind names: the payee of a payment, or the offer of a cancellation
abbrev pub IsTarget : Parts → ℕ → Kind → Target → Type 0
IsTarget parts account (kind.Pay asset to amount) named = IsPayee parts to.0 named
IsTarget parts account (kind.Create id) named = named ≡ target.Nothing
IsTarget parts account (kind.Offer sell buy limit amount) named = named ≡ target.Nothing
IsTarget parts account (kind.Cancel sell buy limit seq) named =
    IsNamedOffer parts (record {
      sell = sell;
      buy = buy;
      limit = limit;
      account = record { 0 = account };
      seq = seq;
    }) named

-- where the account of a transaction and what it names stand
pub record ArePlaces (parts : Parts) (tx : Tx) (places : Places) : Type 0 where
  pub account : slice_get (ids parts.accounts) places.account ≡ Some tx.account.0
  pub target : IsTarget parts tx.account.0 tx.kind places.target

-- what a search for an id answers
pub record IsFound (ids : List ℕ) (id : ℕ) (place : Option ℕ) : Type 0 where
  pub found : IfSome place (λ place. slice_get ids place ≡ Some id)
  pub absent : IfNone place (Contains ids id → ⊥)

-- the account that a transaction of this kind pays or creates
abbrev pub named_account : Kind → Option AccountId
named_account (kind.Pay asset to amount) = Some to
named_account (kind.Create id) = Some id
named_account (kind.Offer sell buy limit amount) = None
named_account (kind.Cancel sell buy limit seq) = None

-- whether a test passes, or its refusal, whatever comes with a pass
abbrev pub verdict : {A : Type 0} → Result A Static → Result (Unit {0}) Static
verdict (Ok passed) = Ok tt
verdict (Err why) = Err why
