-- What is in a body, and what holds of each of its transactions.
use Rattle.std.proofs.Common.{◌≡◌, ℕ, zero, suc, true, List, [], ◌∷◌}
use Rattle.std.proofs.Common.{Some, inl, inr, refl, ap, subst, ◌∙◌, arith}
use Rattle.std.specs.Prelude.{slice_get, Contains}
use Rattle.std.specs.List.{AllByRecursion}
use Rattle.std.proofs.lemmas.Bool.{cases_Bool}
use Rattle.std.proofs.lemmas.Option.{same_Some}
use Rattle.sx_outcome.specs.Gathering.{Decision, accepted, in_tx_order, is_accepted, put_tx}
use Rattle.sx_outcome.proofs.Totals.{In}
use Rattle.sx_ledger.specs.Body.{tx_before}
use Rattle.sx_tx.specs.declared.tx.Tx.{Tx}

-- ---- elements

in_put_new : (new : Tx) (txs : List Tx) → In new (put_tx new txs)
in_put_new new [] = inl refl
in_put_new new (tx ∷ txs) =
    elim (cases_Bool (tx_before new tx)) [
      | inl e ↦ rw e (inl refl)
      | inr e ↦ rw e (inr (in_put_new new txs))
    ]

in_put : (x new : Tx) (txs : List Tx) → In x txs → In x (put_tx new txs)
in_put x new [] is = absurd is
in_put x new (tx ∷ txs) is =
    elim (cases_Bool (tx_before new tx)) [
      | inl e ↦ rw e (inr is)
      | inr e ↦ rw e (elim is [ inl here ↦ inl here | inr later ↦ inr (in_put x new txs later) ])
    ]

in_ordered : (x : Tx) (txs : List Tx) → In x txs → In x (in_tx_order txs)
in_ordered x [] is = absurd is
in_ordered x (tx ∷ txs) (inl e) = subst (λ (y : Tx). In y (in_tx_order (tx ∷ txs))) e (in_put_new tx (in_tx_order txs))
in_ordered x (tx ∷ txs) (inr is) = in_put x tx (in_tx_order txs) (in_ordered x txs is)

in_accepted : (list : List Decision) (place : ℕ) (one : Decision) → slice_get list place ≡ Some one
    → is_accepted one.outcome ≡ true → In one.tx (accepted list)
in_accepted [] place one at is = absurd cc
in_accepted (first ∷ list) zero one at is =
    let same = same_Some first one at in
    let yes : is_accepted first.outcome ≡ true = ap (λ (d : Decision). is_accepted d.outcome) same ∙ is in
    rw yes (inl (ap (λ (d : Decision). d.tx) same))
in_accepted (first ∷ list) (suc place) one at is =
    elim (cases_Bool (is_accepted first.outcome)) [
      | inl e ↦ rw e (inr (in_accepted list place one at is))
      | inr e ↦ rw e (in_accepted list place one at is)
    ]

contains : (x : Tx) (txs : List Tx) → In x txs → Contains txs x
contains x [] is = absurd is
contains x (tx ∷ txs) (inl e) = (0, omega arith, e)
contains x (tx ∷ txs) (inr is) =
    let rest = contains x txs is in (suc rest.0, omega (arith, rest.1), rest.2)

pub in_body : (list : List Decision) (place : ℕ) (one : Decision) → slice_get list place ≡ Some one
    → is_accepted one.outcome ≡ true → Contains (in_tx_order (accepted list)) one.tx
in_body list place one at is =
    contains one.tx (in_tx_order (accepted list)) (in_ordered one.tx (accepted list) (in_accepted list place one at is))

-- ---- what holds of each

all_put : (P : Tx → Type 0) (new : Tx) (txs : List Tx) → P new → AllByRecursion P txs →
    AllByRecursion P (put_tx new txs)
all_put P new [] here all = (here, tt)
all_put P new (tx ∷ txs) here all =
    elim (cases_Bool (tx_before new tx)) [
      | inl e ↦ rw e (here, all)
      | inr e ↦ rw e (all.0, all_put P new txs here all.1)
    ]

all_ordered : (P : Tx → Type 0) (txs : List Tx) → AllByRecursion P txs → AllByRecursion P (in_tx_order txs)
all_ordered P [] all = tt
all_ordered P (tx ∷ txs) all = all_put P tx (in_tx_order txs) all.0 (all_ordered P txs all.1)

all_accepted : (P : Tx → Type 0) (list : List Decision)
    → ((place : ℕ) (one : Decision) → slice_get list place ≡ Some one → is_accepted one.outcome ≡ true → P one.tx)
    → AllByRecursion P (accepted list)
all_accepted P [] each = tt
all_accepted P (one ∷ list) each =
    elim (cases_Bool (is_accepted one.outcome)) [
      | inl e ↦ rw e (each 0 one refl e, all_accepted P list (λ place. each (suc place)))
      | inr e ↦ rw e (all_accepted P list (λ place. each (suc place)))
    ]

pub all_body : (P : Tx → Type 0) (list : List Decision)
    → ((place : ℕ) (one : Decision) → slice_get list place ≡ Some one → is_accepted one.outcome ≡ true → P one.tx)
    → AllByRecursion P (in_tx_order (accepted list))
all_body P list each = all_ordered P (accepted list) (all_accepted P list each)
