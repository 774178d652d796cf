-- What an account holds, by its place.
use Rattle.std.proofs.Common.{◌≡◌, ℕ, suc, ◌<◌, List, [], ◌∷◌, length, Option, Some}
use Rattle.std.proofs.Common.{inl, inr, refl, sym, ap, subst, ◌∙◌, arith}
use Rattle.std.specs.Prelude.{Contains, IfSome, slice_get, ◌==◌}
use Rattle.std.specs.List.Sorted.{IsStrictlyIncreasing}
use Rattle.std.proofs.lemmas.Bool.{cases_Bool, eqb-true}
use Rattle.std.proofs.lemmas.Option.{get_or_from_slice_get, slice_get_within}
use Rattle.sx_ledger.proofs.Lookup.{entry_at}
use Rattle.sx_ledger.proofs.PlacesOfIds.{holding_at}
use Rattle.sx_ledger.specs.declared.account.Account.{Account}
use Rattle.sx_ledger.specs.Body.{holding_of}
use Rattle.sx_ledger.specs.Ledger.{balance_at, ids}

pub held_at : (accounts : List Account) → IsStrictlyIncreasing (ids accounts) → (place id asset units : ℕ)
    → slice_get (ids accounts) place ≡ Some id
    → IfSome (slice_get accounts place) (λ account. units ≡ balance_at asset account)
    → units ≡ holding_of accounts id asset
held_at accounts rising place id asset units found told =
    let e = entry_at (λ (account : Account). account.id.0) accounts place id found in
    let at : units ≡ balance_at asset e.0 =
    subst (λ (o : Option Account). IfSome o (λ account. units ≡ balance_at asset account)) e.1 told in
    let holds : holding_of accounts e.0.id.0 asset ≡ balance_at asset e.0 =
    subst (λ (a : Account). holding_of accounts a.id.0 asset ≡ balance_at asset a)
    (get_or_from_slice_get accounts place e.0 e.0 e.1)
    (holding_at accounts rising asset place e.0 (slice_get_within accounts place e.0 e.1)) in
    at ∙ sym holds ∙ ap (λ (a : ℕ). holding_of accounts a asset) (sym e.2)

pub none_held : (accounts : List Account) (id asset : ℕ) → (Contains (ids accounts) id → ⊥)
    → 0 ≡ holding_of accounts id asset
none_held [] id asset absent = refl
none_held (account ∷ accounts) id asset absent =
    elim (cases_Bool (account.id.0 == id)) [
      | inl e ↦ absurd (absent (0, omega arith, eqb-true account.id.0 id e))
      | inr e ↦ rw e (none_held accounts id asset (λ found. absent (suc found.0, further found.0 found.1, found.2)))
    ]
  where
    further : (k : ℕ) → k < length (ids accounts) → suc k < suc (length (ids accounts))
    further k lt = omega arith
