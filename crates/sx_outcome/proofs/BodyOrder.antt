-- The accepted candidates are in the order of a body.
use Rattle.std.proofs.Common.{◌≡◌, ℕ, suc, ◌<◌, ◌≤◌, true, cond, List, [], ◌∷◌}
use Rattle.std.proofs.Common.{Some, None, inl, inr, refl, sym, ap, ◌∙◌, arith}
use Rattle.std.specs.Prelude.{slice_get}
use Rattle.std.specs.List.{AllByRecursion}
use Rattle.std.proofs.lemmas.Bool.{cases_Bool, cases_order, eq-eqb, lt-ltb, le-ltb}
use Rattle.std.proofs.lemmas.List.{map-id}
use Rattle.sx_bytes.specs.Grammar.{in_order}
use Rattle.sx_outcome.specs.Gathering.{Decision, accepted, in_tx_order, is_accepted, keeps_number, put_tx}
use Rattle.sx_outcome.specs.Gathering.{NumbersOnce}
use Rattle.sx_outcome.specs.declared.outcome.Outcome.{Outcome}
use Rattle.sx_outcome.specs.declared.outcome.Outcome.TheVariants as outcome
use Rattle.sx_ledger.specs.Body.{tx_before}
use Rattle.sx_ledger.proofs.Insertion.{put, put_all, put_all_in_order, AreApart, Apart}
use Rattle.sx_tx.specs.declared.tx.Tx.{Tx}

order_is : (txs : List Tx) → in_tx_order txs ≡ put_all (λ (tx : Tx). tx) tx_before txs []
order_is [] = refl
order_is (tx ∷ txs) = ap (put_tx tx) (order_is txs) ∙ put_is tx (put_all (λ (t : Tx). t) tx_before txs [])
  where
    put_is : (new : Tx) (xs : List Tx) → put_tx new xs ≡ put (λ (t : Tx). t) tx_before new xs
    put_is new [] = refl
    put_is new (x ∷ xs) = ap (λ (ys : List Tx). cond (tx_before new x) (new ∷ x ∷ xs) (x ∷ ys)) (put_is new xs)

-- of two transactions of different numbers one stands before the other
apart : (one other : Tx) → ((one.account.0 ≡ other.account.0) → one.seq ≡ other.seq → ⊥)
    → Apart (λ (tx : Tx). tx) tx_before one other
apart one other differ not_before =
    elim (cases_order one.account.0 other.account.0) [
      | inl e ↦ elim (cases_order one.seq other.seq) [
        | inl same ↦ absurd (differ e same)
        | inr (inl lt) ↦
            let yes : tx_before one other ≡ true = by_seq one other e lt in absurd cc
        | inr (inr gt) ↦ by_seq other one (sym e) gt
      ]
      | inr (inl lt) ↦ let yes : tx_before one other ≡ true = by_account one other lt in absurd cc
      | inr (inr gt) ↦ by_account other one gt
    ]
  where
    by_account : (a b : Tx) → a.account.0 < b.account.0 → tx_before a b ≡ true
    by_account a b lt = rw (lt-ltb a.account.0 b.account.0 lt) refl

    by_seq : (a b : Tx) → a.account.0 ≡ b.account.0 → a.seq < b.seq → tx_before a b ≡ true
    by_seq a b e lt =
        let no : b.account.0 ≤ a.account.0 = omega (arith, e) in
        rw (le-ltb a.account.0 b.account.0 no)
        (rw (eq-eqb a.account.0 b.account.0 e) (rw (lt-ltb a.seq b.seq lt) refl))

accepted_keeps : (of : Outcome) → is_accepted of ≡ true → keeps_number of ≡ true
accepted_keeps outcome.Accepted is = refl
accepted_keeps (outcome.Static why) is = absurd cc
accepted_keeps outcome.SeqTaken is = absurd cc
accepted_keeps outcome.OfferTaken is = absurd cc
accepted_keeps outcome.NameTaken is = absurd cc
accepted_keeps (outcome.Overdraft seen need) is = absurd cc

pub kept : (one : Decision) → is_accepted one.outcome ≡ true → keeps_number one.outcome ≡ true
kept one is = accepted_keeps one.outcome is

-- no two of a list keep one number
once_rest : (one : Decision) (list : List Decision) → NumbersOnce (one ∷ list) → NumbersOnce list
once_rest one list once i j a b at there account seq keeps too =
    let next : suc i ≡ suc j = once (suc i) (suc j) a b at there account seq keeps too in omega arith

apart_rest : (one : Decision) (list : List Decision)
    → ((j : ℕ) (q : Decision) → slice_get list j ≡ Some q → is_accepted q.outcome ≡ true
    → one.tx.account.0 ≡ q.tx.account.0 → one.tx.seq ≡ q.tx.seq → ⊥)
    → AllByRecursion (Apart (λ (tx : Tx). tx) tx_before one.tx) (accepted list)
apart_rest one [] differ = tt
apart_rest one (q ∷ list) differ =
    elim (cases_Bool (is_accepted q.outcome)) [
      | inl e ↦ rw e (apart one.tx q.tx (differ 0 q refl e), apart_rest one list (λ j. differ (suc j)))
      | inr e ↦ rw e (apart_rest one list (λ j. differ (suc j)))
    ]

are_apart : (list : List Decision) → NumbersOnce list → AreApart (λ (tx : Tx). tx) tx_before (accepted list) []
are_apart [] once = tt
are_apart (one ∷ list) once =
    elim (cases_Bool (is_accepted one.outcome)) [
      | inl e ↦ rw e (
        apart_rest one list (λ j q at is account seq.
            let same : 0 ≡ suc j = once 0 (suc j) one q refl at account seq (kept one e) (kept q is) in
            omega arith),
        tt,
        are_apart list (once_rest one list once),
      )
      | inr e ↦ rw e (are_apart list (once_rest one list once))
    ]

pub body_ordered : (list : List Decision) → NumbersOnce list
    → in_order tx_before None (in_tx_order (accepted list)) ≡ true
body_ordered list once =
    let txs = accepted list in
    ap (in_order tx_before None) (order_is txs ∙ sym (map-id (put_all (λ (tx : Tx). tx) tx_before txs [])))
    ∙ put_all_in_order (λ (tx : Tx). tx) tx_before txs [] (are_apart list once) refl
