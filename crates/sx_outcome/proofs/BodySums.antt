-- Sums over the accepted candidates, in the order of a body too.
use Rattle.std.proofs.Common.{◌≡◌, ℕ, suc, ◌+◌, ◌≤◌, Bool, true, false, cond, List, [], ◌∷◌, length}
use Rattle.std.proofs.Common.{Option, Some, None, inl, inr, refl, ap, ◌∙◌, arith}
use Rattle.std.specs.Prelude.{slice_get}
use Rattle.std.specs.List.{AllByRecursion, IsDistinct, filter_map, cons_option}
use Rattle.std.proofs.lemmas.Bool.{cases_Bool, cases_lt}
use Rattle.std.proofs.lemmas.Map.Keys.{IsDistinct-cons}
use Rattle.sx_outcome.specs.Gathering.{Decision, decisions, accepted, in_tx_order, is_accepted, put_tx}
use Rattle.sx_outcome.specs.declared.outcome.Outcome.{Outcome}
use Rattle.sx_outcome.proofs.Totals.{total, some_place}
use Rattle.sx_ledger.specs.Body.{tx_before}
use Rattle.sx_ledger.specs.Effects.{debit, debits, posted}
use Rattle.sx_tx.specs.declared.tx.Tx.{Tx}

total_put : (f : Tx → ℕ) (new : Tx) (txs : List Tx) → total f (put_tx new txs) ≡ f new + total f txs
total_put f new [] = refl
total_put f new (tx ∷ txs) =
    elim (cases_Bool (tx_before new tx)) [
      | inl e ↦ rw e refl
      | inr e ↦ rw e (omega (arith, total_put f new txs))
    ]

pub total_ordered : (f : Tx → ℕ) (txs : List Tx) → total f (in_tx_order txs) ≡ total f txs
total_ordered f [] = refl
total_ordered f (tx ∷ txs) = total_put f tx (in_tx_order txs) ∙ ap (λ (n : ℕ). f tx + n) (total_ordered f txs)

-- what an accepted decision counts for
abbrev pub counted : (Tx → ℕ) → Decision → ℕ
counted f one = cond (is_accepted one.outcome) (f one.tx) 0

pub total_accepted : (f : Tx → ℕ) (list : List Decision) → total f (accepted list) ≡ total (counted f) list
total_accepted f [] = refl
total_accepted f (one ∷ list) =
    elim (cases_Bool (is_accepted one.outcome)) [
      | inl e ↦ rw e (ap (λ (n : ℕ). f one.tx + n) (total_accepted f list))
      | inr e ↦ rw e (omega (arith, total_accepted f list))
    ]

pub total_body : (f : Tx → ℕ) (list : List Decision) → total f (in_tx_order (accepted list)) ≡ total (counted f) list
total_body f list = total_ordered f (accepted list) ∙ total_accepted f list

pub total_candidates : (f : Tx → ℕ) (txs : List Tx) (outcomes : List Outcome)
    → total (counted f) (decisions txs outcomes) ≤ total f txs
total_candidates f [] outcomes = omega arith
total_candidates f (tx ∷ txs) [] = omega arith
total_candidates f (tx ∷ txs) (one ∷ outcomes) =
    elim (cases_Bool (is_accepted one)) [
      | inl e ↦ rw e (omega (arith, total_candidates f txs outcomes))
      | inr e ↦ rw e (omega (arith, total_candidates f txs outcomes))
    ]

pub debits_total : (txs : List Tx) (account asset : ℕ)
    → debits txs account asset ≡ total (λ tx. posted (debit tx) account asset) txs
debits_total [] account asset = refl
debits_total (tx ∷ txs) account asset =
    ap (λ (n : ℕ). posted (debit tx) account asset + n) (debits_total txs account asset)

-- at most one place counts, and for one
pub at_most_one : {X : Type 0} (f : X → ℕ) (xs : List X) → ((x : X) → f x ≤ 1)
    → ((i j : ℕ) (a b : X) → slice_get xs i ≡ Some a → slice_get xs j ≡ Some b → 1 ≤ f a → 1 ≤ f b → i ≡ j)
    → total f xs ≤ 1
at_most_one f [] small one = omega arith
at_most_one f (x ∷ xs) small one =
    let rest = at_most_one f xs small
    (λ i j a b at there p q. let next : suc i ≡ suc j = one (suc i) (suc j) a b at there p q in omega arith) in
    elim (cases_lt (total f xs) 1) [
      | inl none ↦ omega (arith, small x)
      | inr some ↦
          let found = some_place f xs some in
          elim (cases_lt (f x) 1) [
            | inl none ↦ omega (arith, rest)
            | inr here ↦
                let same : 0 ≡ suc found.place =
                one 0 (suc found.place) x found.entry refl found.stands here found.counts in
                absurd (omega arith)
          ]
    ]

-- ---- what transactions name

module _ {K : Type 0} (same : K → K → Bool) (h : Tx → Option K) where
  abbrev pub hit_by : K → Option K → ℕ
  hit_by k None = 0
  hit_by k (Some other) = cond (same k other) 1 0

  abbrev pub hit : K → Tx → ℕ
  hit k tx = hit_by k (h tx)

  none_hit : (k : K) (txs : List Tx) → total (hit k) txs ≡ 0 → AllByRecursion (λ y. same k y ≡ false) (filter_map h txs)
  none_hit k [] none = tt
  none_hit k (tx ∷ txs) none = more (h tx) none (none_hit k txs (omega (arith, none)))
    where
      some : 1 + total (hit k) txs ≡ 0 → ⊥
      some e = omega arith

      more : (found : Option K) → hit_by k found + total (hit k) txs ≡ 0
          → AllByRecursion (λ y. same k y ≡ false) (filter_map h txs)
          → AllByRecursion (λ y. same k y ≡ false) (cons_option found (filter_map h txs))
      more None sum rest = rest
      more (Some other) sum rest = elim (cases_Bool (same k other)) [
        | inl e ↦ absurd (some (rw e at sum))
        | inr e ↦ (e, rest)
      ]

  pub distinct_if : ((k : K) → same k k ≡ true) → (txs : List Tx) → ((k : K) → total (hit k) txs ≤ 1)
      → IsDistinct same (filter_map h txs)
  unfolding IsDistinct
  distinct_if self [] once = tt
  distinct_if self (tx ∷ txs) once =
      more (h tx) (λ k. once k) (distinct_if self txs (λ k. omega (arith, once k)))
    where
      zero_left : (n : ℕ) → 1 + n ≤ 1 → n ≡ 0
      zero_left n le = omega arith

      more : (found : Option K) → ((k : K) → hit_by k found + total (hit k) txs ≤ 1) →
          IsDistinct same (filter_map h txs)
          → IsDistinct same (cons_option found (filter_map h txs))
      more None sum rest = rest
      more (Some k) sum rest =
          let one = rw (self k) at (sum k) in
          IsDistinct-cons same k (filter_map h txs) (none_hit k txs (zero_left (total (hit k) txs) one)) rest

abbrev pub one_if : {K : Type 0} → Option K → ℕ
one_if None = 0
one_if (Some k) = 1

pub length-named : {K : Type 0} (h : Tx → Option K) (txs : List Tx)
    → length (filter_map h txs) ≡ total (λ tx. one_if (h tx)) txs
length-named h [] = refl
length-named h (tx ∷ txs) = more (h tx) (length-named h txs)
  where
    more : (found : Option _) → length (filter_map h txs) ≡ total (λ t. one_if (h t)) txs
        → length (cons_option found (filter_map h txs)) ≡ one_if found + total (λ t. one_if (h t)) txs
    more None rest = omega (arith, rest)
    more (Some k) rest = omega (arith, rest)
