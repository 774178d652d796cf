-- What may be the body of a block is kept whole.
use Rattle.std.proofs.Common.{◌≡◌, ◌⊎◌, ℕ, ◌<◌, ◌≤◌, Bool, true, false, not, ◌&&◌, ◌||◌, List, [], ◌∷◌, Option, Some}
use Rattle.std.proofs.Common.{None, Result, Ok, inl, inr, refl, sym, ap, subst, ◌∙◌, arith}
use Rattle.std.specs.Prelude.{is_ok, nat_eq, nat_lt, ◌==◌}
use Rattle.std.specs.List.{AllByRecursion, IsDistinct, cons_option, count_by, filter, filter_map}
use Rattle.std.proofs.lemmas.Bool.{and_from, and_parts, cases_Bool, eq-eqb, eqb-true, false_from_ne_true, lt-leb}
use Rattle.std.proofs.lemmas.Bool.{ltb-true}
use Rattle.std.proofs.lemmas.Map.Keys.{IsDistinct-head, IsDistinct-tail}
use Rattle.sx_bytes.specs.Grammar.{in_order, may_follow}
use Rattle.sx_filter.specs.Alone.{is_alone, is_twice}
use Rattle.sx_filter.specs.Kept.{both, kept_of, passes, passing, same_id, same_number, same_offer}
use Rattle.sx_filter.specs.KeptLaws.{BodyIsKept}
use Rattle.sx_filter.proofs.Counts.{contains_in, count_is, times}
use Rattle.sx_filter.proofs.KeptAlone.{kept_is}
use Rattle.sx_filter.proofs.KeptLaws.{each_covers}
use Rattle.sx_outcome.specs.Gathering.{in_tx_order, put_tx}
use Rattle.sx_outcome.proofs.Totals.{In}
use Rattle.sx_ledger.specs.declared.key.Key.{Key}
use Rattle.sx_ledger.specs.declared.parts.Parts.{Parts}
use Rattle.sx_ledger.specs.declared.statics.Static.{Static}
use Rattle.sx_ledger.specs.Body.{IsAdmissible, cancelled_by, created_by, tx_before}
use Rattle.sx_ledger.specs.Ledger.{assets_of}
use Rattle.sx_ledger.specs.Order.{same_key}
use Rattle.sx_ledger.specs.Static.{static_of}
use Rattle.sx_ledger.proofs.KeyOrder.{same_key_from, same_key_is}
use Rattle.sx_tx.specs.declared.tx.Tx.{Tx}

-- ---- lists that a filter and an order leave as they are

filter_all : (p : Tx → Bool) (xs : List Tx) → ((x : Tx) → In x xs → p x ≡ true) → filter p xs ≡ xs
filter_all p [] all = refl
filter_all p (x ∷ xs) all =
    rw (all x (inl refl)) (ap (λ (ys : List Tx). x ∷ ys) (filter_all p xs (λ y is. all y (inr is))))

own_order : (previous : Option Tx) (txs : List Tx) → in_order tx_before previous txs ≡ true → in_tx_order txs ≡ txs
own_order previous [] rises = refl
own_order previous (tx ∷ []) rises = refl
own_order previous (tx ∷ next ∷ txs) rises =
    let behind = and_parts (may_follow tx_before previous tx) (in_order tx_before (Some tx) (next ∷ txs)) rises in
    let first = and_parts (tx_before tx next) (in_order tx_before (Some next) txs) behind.1 in
    ap (put_tx tx) (own_order (Some tx) (next ∷ txs) behind.1) ∙ rw first.0 refl

-- ---- lists in which no two are the same by a test

module _ (same : Tx → Tx → Bool) where
  -- each differs from all behind it
  abbrev Differ : List Tx → Type 0
  Differ [] = Unit {0}
  Differ (x ∷ xs) = ((y : Tx) → In y xs → same x y ≡ false) × Differ xs

  none : (x : Tx) (xs : List Tx) → ((y : Tx) → In y xs → same x y ≡ false) → times (same x) xs ≡ 0
  none x [] differs = refl
  none x (y ∷ xs) differs =
      rw (differs y (inl refl)) (omega (arith, none x xs (λ z is. differs z (inr is))))

  at_most_one : ((a b : Tx) → same a b ≡ true → same b a ≡ true) → (xs : List Tx) → Differ xs → (x : Tx) → In x xs
      → times (same x) xs ≤ 1
  at_most_one turn [] differ x is = absurd is
  at_most_one turn (y ∷ xs) differ x (inl here) =
      let others : times (same x) xs ≡ 0 =
      none x xs (subst (λ (z : Tx). (t : Tx) → In t xs → same z t ≡ false) here differ.0) in
      elim (cases_Bool (same x y)) [
        | inl e ↦ rw e (omega (arith, others))
        | inr e ↦ rw e (omega (arith, others))
      ]
  at_most_one turn (y ∷ xs) differ x (inr later) =
      let other : same x y ≡ false =
      false_from_ne_true (same x y) (λ e. let no = sym (differ.0 x later) ∙ turn x y e in absurd cc) in
      rw other (omega (arith, at_most_one turn xs differ.1 x later))

  not_twice : ((a b : Tx) → same a b ≡ true → same b a ≡ true) → (xs : List Tx) → Differ xs → (x : Tx) → In x xs
      → not (is_twice (same x) xs) ≡ true
  not_twice turn xs differ x is =
      ap not (lt-leb 2 (count_by (same x) xs) (omega (arith, at_most_one turn xs differ x is, count_is (same x) xs)))

-- ---- numbers

abbrev Before : Tx → Tx → Type 0
Before one other = (one.account.0 < other.account.0) ⊎ ((one.account.0 ≡ other.account.0) × (one.seq < other.seq))

before_is : (one other : Tx) → tx_before one other ≡ true → Before one other
before_is one other e = elim (cases_Bool (nat_lt one.account.0 other.account.0)) [
  | inl less ↦ inl (ltb-true one.account.0 other.account.0 less)
  | inr most ↦
      let rest : ((one.account.0 == other.account.0) && nat_lt one.seq other.seq) ≡ true =
      sym (ap (λ (b : Bool). b || ((one.account.0 == other.account.0) && nat_lt one.seq other.seq)) most) ∙ e in
      let two = and_parts (one.account.0 == other.account.0) (nat_lt one.seq other.seq) rest in
      inr (eqb-true one.account.0 other.account.0 two.0, ltb-true one.seq other.seq two.1)
]

through : (a b c : Tx) → Before a b → Before b c → Before a c
through a b c (inl x) (inl y) = inl (omega arith)
through a b c (inl x) (inr y) = let same = y.0 in inl (omega arith)
through a b c (inr x) (inl y) = let same = x.0 in inl (omega arith)
through a b c (inr x) (inr y) = let one = x.1 in let other = y.1 in inr (x.0 ∙ y.0, omega arith)

other_number : (one other : Tx) → Before one other → same_number one other ≡ false
other_number one other is =
    false_from_ne_true (same_number one other) (λ e.
    let two = and_parts (one.account.0 == other.account.0) (one.seq == other.seq) e in
    apart is (eqb-true one.account.0 other.account.0 two.0) (eqb-true one.seq other.seq two.1))
  where
    apart : Before one other → one.account.0 ≡ other.account.0 → one.seq ≡ other.seq → ⊥
    apart (inl less) account seq = omega arith
    apart (inr both) account seq = let less = both.1 in omega arith

number_turned : (a b : Tx) → same_number a b ≡ true → same_number b a ≡ true
number_turned a b e =
    let two = and_parts (a.account.0 == b.account.0) (a.seq == b.seq) e in
    and_from (b.account.0 == a.account.0) (b.seq == a.seq)
    (eq-eqb b.account.0 a.account.0 (sym (eqb-true a.account.0 b.account.0 two.0)))
    (eq-eqb b.seq a.seq (sym (eqb-true a.seq b.seq two.1)))

all_behind : (tx : Tx) (txs : List Tx) → in_order tx_before (Some tx) txs ≡ true → (y : Tx) → In y txs → Before tx y
all_behind tx [] rises y is = absurd is
all_behind tx (next ∷ txs) rises y is =
    let two = and_parts (tx_before tx next) (in_order tx_before (Some next) txs) rises in
    by (before_is tx next two.0) (all_behind next txs two.1 y) is
  where
    by : Before tx next → (In y txs → Before next y) → (next ≡ y) ⊎ In y txs → Before tx y
    by first rest (inl here) = subst (λ (z : Tx). Before tx z) here first
    by first rest (inr later) = through tx next y first (rest later)

numbers_differ : (previous : Option Tx) (txs : List Tx) → in_order tx_before previous txs ≡ true → Differ same_number txs
numbers_differ previous [] rises = tt
numbers_differ previous (tx ∷ txs) rises =
    let two = and_parts (may_follow tx_before previous tx) (in_order tx_before (Some tx) txs) rises in
    (λ y is. other_number tx y (all_behind tx txs two.1 y is), numbers_differ (Some tx) txs two.1)

-- ---- names

module _ {K : Type 0} (same : K → K → Bool) (named : Tx → Option K) where
  abbrev same_name : Tx → Tx → Bool
  same_name one other = both same (named one) (named other)

  absent : (k : K) (xs : List Tx) → AllByRecursion (λ other. same k other ≡ false) (filter_map named xs)
      → (y : Tx) → In y xs → both same (Some k) (named y) ≡ false
  absent k [] all y is = absurd is
  absent k (x ∷ xs) all y is = by (named x) refl all (λ list. absent k xs list y) is
    where
      by : (found : Option K) → named x ≡ found
          → AllByRecursion (λ other. same k other ≡ false) (cons_option found (filter_map named xs))
          → (AllByRecursion (λ other. same k other ≡ false) (filter_map named xs) → In y xs
          → both same (Some k) (named y) ≡ false)
          → (x ≡ y) ⊎ In y xs → both same (Some k) (named y) ≡ false
      by None e list rest (inl here) =
          ap (λ (t : Tx). both same (Some k) (named t)) (sym here) ∙ ap (λ (o : Option K). both same (Some k) o) e
      by None e list rest (inr later) = rest list later
      by (Some other) e list rest (inl here) =
          ap (λ (t : Tx). both same (Some k) (named t)) (sym here) ∙ ap (λ (o : Option K). both same (Some k) o) e
          ∙ list.0
      by (Some other) e list rest (inr later) = rest list.1 later

  names_differ : (xs : List Tx) → IsDistinct same (filter_map named xs) → Differ same_name xs
  names_differ [] distinct = tt
  names_differ (x ∷ xs) distinct = by (named x) refl distinct (names_differ xs)
    where
      by : (found : Option K) → named x ≡ found → IsDistinct same (cons_option found (filter_map named xs))
          → (IsDistinct same (filter_map named xs) → Differ same_name xs)
          → ((y : Tx) → In y xs → same_name x y ≡ false) × Differ same_name xs
      by None e list rest = (λ y is. ap (λ (o : Option K). both same o (named y)) e, rest list)
      by (Some k) e list rest = (
        λ y is. ap (λ (o : Option K). both same o (named y)) e
            ∙ absent k xs (IsDistinct-head same k (filter_map named xs) list) y is,
        rest (IsDistinct-tail same k (filter_map named xs) list),
      )

  both_turned : ((a b : K) → same a b ≡ true → same b a ≡ true) → (one other : Option K) → both same one other ≡ true
      → both same other one ≡ true
  both_turned turn None other e = absurd cc
  both_turned turn (Some one) None e = absurd cc
  both_turned turn (Some one) (Some other) e = turn one other e

key_turned : (a b : Key) → same_key a b ≡ true → same_key b a ≡ true
key_turned a b e = same_key_from b a (sym (same_key_is a b e))

id_turned : (a b : ℕ) → nat_eq a b ≡ true → nat_eq b a ≡ true
id_turned a b e = eq-eqb b a (sym (eqb-true a b e))

-- ---- a body

module _ (parts : Parts) (body : List Tx) (is : IsAdmissible parts body) where
  abbrev cancels : Tx → Option Key
  cancels tx = cancelled_by tx tx.kind

  abbrev creates : Tx → Option ℕ
  creates tx = created_by tx.kind

  each_passes : (x : Tx) → In x body → passes parts x ≡ true
  each_passes x there =
      let at = contains_in x body there in
      let ok : static_of parts x ≡ Ok tt =
      subst (λ (tx : Tx). static_of parts tx ≡ Ok tt) at.2 (is.passes at.0 x at.1) in
      ap (λ (answer : Result (Unit {0}) Static). is_ok answer) ok

  all_pass : passing parts body ≡ body
  all_pass = filter_all (passes parts) body each_passes

  each_alone : (x : Tx) → In x body → is_alone parts body x ≡ true
  each_alone x there =
      and_from _ _ (not_twice same_number number_turned body (numbers_differ None body is.ordered) x there)
      (and_from _ _
      (not_twice same_offer (λ a b. both_turned same_key cancels key_turned (cancels a) (cancels b)) body
      (names_differ same_key cancels body is.cancels_once) x there)
      (and_from _ _
      (not_twice same_id (λ a b. both_turned nat_eq creates id_turned (creates a) (creates b)) body
      (names_differ nat_eq creates body is.creates_once) x there)
      (each_covers parts body x.account.0 (assets_of parts) (λ asset lt. is.covered x.account.0 asset))))

  kept_whole : kept_of parts body ≡ body
  kept_whole =
      kept_is parts body
      ∙ ap (λ (txs : List Tx). in_tx_order (filter (is_alone parts txs) txs)) all_pass
      ∙ ap in_tx_order (filter_all (is_alone parts body) body each_alone)
      ∙ own_order None body is.ordered

pub body_is_kept : BodyIsKept
body_is_kept parts body is = kept_whole parts body is
