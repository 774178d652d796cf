-- What it says of transactions that they are sorted.
use Rattle.std.proofs.Common.{◌≡◌, ℕ, zero, suc, ◌+◌, ◌<◌, ◌≤◌, Bool, true, false, List, [], ◌∷◌, length, get_or}
use Rattle.std.proofs.Common.{Some, ◌-◌, inl, inr, refl, subst, sym, ◌∙◌, arith}
use Rattle.std.specs.Prelude.{slice_get, ◌==◌}
use Rattle.std.specs.Cmp.{eq_by_cmp_equiv}
use Rattle.std.specs.List.{AllByRecursion, filter}
use Rattle.std.specs.List.Sorted.{IsNonDecreasingBy, IsSortedBy}
use Rattle.std.specs.Ordering.{ordering_index}
use Rattle.std.proofs.lemmas.Bool.{cases_Bool, cases_lt, eq-eqb, eqb-true, lt-ltb}
use Rattle.std.proofs.lemmas.List.Sorted.{ranks_by, searchable_from_sorted, sorted_far}
use Rattle.sx_filter.specs.Alone.{is_twice}
use Rattle.sx_filter.specs.Kept.{same_number}
use Rattle.sx_filter.proofs.InOrder.{before, before_is, number_cmp, number_of, number_same, number_total}
use Rattle.sx_filter.proofs.KeptAlone.{number_itself}
use Rattle.sx_filter.proofs.Ranks.{equal_rank, none_beside, two_beside}
use Rattle.sx_ledger.specs.Body.{tx_before}
use Rattle.sx_tx.specs.declared.tx.Tx.{Tx}

abbrev pub ByNumber : List Tx → Type 0
ByNumber txs = IsSortedBy (λ x y. before (number_of x) (number_of y)) txs

pub by_number : (txs : List Tx) → IsSortedBy tx_before txs → ByNumber txs
by_number txs sorted k d low lt = sym (before_is (get_or txs (k + 1) d) (get_or txs k d)) ∙ sorted k d low lt

pub in_numbers : (txs : List Tx) → ByNumber txs → IsSortedBy tx_before txs
in_numbers txs sorted k d low lt = before_is (get_or txs (k + 1) d) (get_or txs k d) ∙ sorted k d low lt

abbrev pub Far : List Tx → Type 0
Far txs =
    (i j : ℕ) (d : Tx) → i ≤ j → j < length txs
    → before (number_of (get_or txs j d)) (number_of (get_or txs i d)) ≡ false

pub far : (txs : List Tx) → ByNumber txs → Far txs
far txs sorted = sorted_far (λ x y. before (number_of x) (number_of y)) (ranks_by number_total number_of) txs sorted

pub accounts_rise : (txs : List Tx) → IsSortedBy tx_before txs → IsNonDecreasingBy (λ x. x.account.0) txs
accounts_rise txs sorted i j d le lt =
    let x = get_or txs i d in
    let y = get_or txs j d in
    elim (cases_lt y.account.0 x.account.0) [
      | inl less ↦
          let no : before (number_of y) (number_of x) ≡ false = far txs (by_number txs sorted) i j d le lt in
          let yes : before (number_of y) (number_of x) ≡ true = rw (lt-ltb y.account.0 x.account.0 less) refl in
          let fails = sym yes ∙ no in absurd cc
      | inr most ↦ most
    ]

-- ---- beside one transaction

abbrev pub rank_of : Tx → Tx → ℕ
rank_of tx x = ordering_index (number_cmp (number_of x) (number_of tx))

pub ranks_rise : (txs : List Tx) → IsSortedBy tx_before txs → (tx : Tx) → IsNonDecreasingBy (rank_of tx) txs
ranks_rise txs sorted tx = searchable_from_sorted number_total number_of txs (number_of tx) (by_number txs sorted)

pub same_rank : (tx x : Tx) → same_number tx x ≡ (rank_of tx x == 1)
same_rank tx x =
    sym (number_same tx.account.0 tx.seq x.account.0 x.seq)
    ∙ (eq_by_cmp_equiv number_total).symm (number_of tx) (number_of x)
    ∙ equal_rank (number_cmp (number_of x) (number_of tx))

-- one of them and its neighbours
module _ (txs : List Tx) (sorted : IsSortedBy tx_before txs) (place : ℕ) (tx : Tx)
    (at : slice_get txs place ≡ Some tx) where
  rank_same : (y : Tx) → same_number tx y ≡ true → rank_of tx y ≡ 1
  rank_same y same = eqb-true (rank_of tx y) 1 (sym (same_rank tx y) ∙ same)

  rank_other : (y : Tx) → same_number tx y ≡ false → rank_of tx y ≡ 1 → ⊥
  rank_other y other one =
      let same : same_number tx y ≡ true = same_rank tx y ∙ eq-eqb (rank_of tx y) 1 one in
      let fails = sym same ∙ other in absurd cc

  pub twice_before : (y : Tx) → 0 < place → slice_get txs (place - 1) ≡ Some y → same_number tx y ≡ true
      → is_twice (same_number tx) txs ≡ true
  twice_before y some stands same =
      let back : place ≡ place - 1 + 1 = omega (arith, some) in
      two_beside (rank_of tx) (same_number tx) (same_rank tx) txs (ranks_rise txs sorted tx) (place - 1) y tx stands
      (subst (λ (k : ℕ). slice_get txs k ≡ Some tx) back at) (rank_same y same) (rank_same tx (number_itself tx))

  pub twice_after : (y : Tx) → slice_get txs (place + 1) ≡ Some y → same_number tx y ≡ true
      → is_twice (same_number tx) txs ≡ true
  twice_after y stands same =
      two_beside (rank_of tx) (same_number tx) (same_rank tx) txs (ranks_rise txs sorted tx) place tx y at stands
      (rank_same tx (number_itself tx)) (rank_same y same)

  pub once_between : ((y : Tx) → 0 < place → slice_get txs (place - 1) ≡ Some y → same_number tx y ≡ false)
      → ((y : Tx) → slice_get txs (place + 1) ≡ Some y → same_number tx y ≡ false)
      → is_twice (same_number tx) txs ≡ false
  once_between before after =
      none_beside (rank_of tx) (same_number tx) (same_rank tx) txs (ranks_rise txs sorted tx) place tx at
      (rank_same tx (number_itself tx)) (λ y some stands. rank_other y (before y some stands))
      (λ y stands. rank_other y (after y stands))

-- ---- what a filter leaves

-- none stands before one that is ahead of it
abbrev pub Ranked : List Tx → Type 0
Ranked [] = Unit {0}
Ranked (x ∷ xs) = AllByRecursion (λ z. before (number_of z) (number_of x) ≡ false) xs × Ranked xs

pub ranked : (xs : List Tx) → Far xs → Ranked xs
ranked [] all = tt
ranked (x ∷ xs) all = (
  behind xs (λ j d lt. all 0 (suc j) d (omega arith) (omega (arith, lt))),
  ranked xs (λ i j d le lt. all (suc i) (suc j) d (omega (arith, le)) (omega (arith, lt))),
)
  where
    behind : (ys : List Tx)
        → ((j : ℕ) (d : Tx) → j < length ys → before (number_of (get_or ys j d)) (number_of x) ≡ false)
        → AllByRecursion (λ z. before (number_of z) (number_of x) ≡ false) ys
    behind [] each = tt
    behind (y ∷ ys) each = (each 0 x (omega arith), behind ys (λ j d lt. each (suc j) d (omega (arith, lt))))

all_left : (P : Tx → Type 0) (p : Tx → Bool) (xs : List Tx) → AllByRecursion P xs → AllByRecursion P (filter p xs)
all_left P p [] all = tt
all_left P p (x ∷ xs) all = elim (cases_Bool (p x)) [
  | inl e ↦ rw e (all.0, all_left P p xs all.1)
  | inr e ↦ rw e (all_left P p xs all.1)
]

ranked_left : (p : Tx → Bool) (xs : List Tx) → Ranked xs → Ranked (filter p xs)
ranked_left p [] is = tt
ranked_left p (x ∷ xs) is = elim (cases_Bool (p x)) [
  | inl e ↦
      rw e (all_left (λ z. before (number_of z) (number_of x) ≡ false) p xs is.0, ranked_left p xs is.1)
  | inr e ↦ rw e (ranked_left p xs is.1)
]

pub beside : (xs : List Tx) → Ranked xs → (k : ℕ) (d : Tx) → k + 1 < length xs
    → before (number_of (get_or xs (k + 1) d)) (number_of (get_or xs k d)) ≡ false
beside [] is k d lt = absurd (omega arith)
beside (x ∷ []) is k d lt = absurd (omega arith)
beside (x ∷ y ∷ xs) is zero d lt = is.0.0
beside (x ∷ y ∷ xs) is (suc k) d lt =
    let same : suc k + 1 ≡ suc (k + 1) = omega arith in
    rw same (beside (y ∷ xs) is.1 k d (omega arith))

pub left_sorted : (p : Tx → Bool) (xs : List Tx) → ByNumber xs → ByNumber (filter p xs)
left_sorted p xs sorted k d low lt =
    beside (filter p xs) (ranked_left p xs (ranked xs (far xs sorted))) k d lt
