-- Transactions in the order of a body: by account, and then by number.
use Rattle.std.proofs.Common.{◌≡◌, ℕ, zero, suc, ◌+◌, ◌<◌, ◌≤◌, Bool, true, false, cond, ◌||◌, ◌&&◌, List, [], ◌∷◌}
use Rattle.std.proofs.Common.{length, get_or, map, Some, None, Option, inl, inr, refl, sym, ap, subst, ◌∙◌, arith}
use Rattle.std.proofs.Common.{append-nil}
use Rattle.std.specs.Prelude.{nat_lt, ◌==◌}
use Rattle.std.specs.Cmp.{IsTotalOrder, nat_cmp_total, on_total, then_total}
use Rattle.std.specs.declared.cmp.Ordering.{Ordering}
use Rattle.std.specs.declared.cmp.Ordering.TheVariants.{Less, Equal, Greater}
use Rattle.std.specs.List.{AllByRecursion}
use Rattle.std.specs.List.Sorted.{IsPermutation, IsSortedBy}
use Rattle.std.specs.Ordering.{is_eq, is_lt, nat_cmp, ordering_reverse, ordering_then}
use Rattle.std.proofs.lemmas.Bool.{and_parts, cases_Bool, cases_order, eq-eqb, eqb-true, false_from_ne_true}
use Rattle.std.proofs.lemmas.Bool.{le-ltb, lt-ltb, ne_eqb}
use Rattle.std.proofs.lemmas.Cmp.{tied_itself}
use Rattle.std.proofs.lemmas.List.Elements.{Contains-get_or}
use Rattle.std.proofs.lemmas.List.Sorted.{Contains-permutation, IsPermutation-sym, IsPermutation-trans, ranks_by}
use Rattle.std.proofs.lemmas.List.Sorted.{sorted_far}
use Rattle.sx_tally.proofs.SameOrder.{one_list, put_all_moves, same_order}
use Rattle.sx_bytes.specs.Grammar.{in_order, may_follow}
use Rattle.sx_filter.specs.Kept.{same_number}
use Rattle.sx_filter.proofs.Counts.{contains_in, in_contains, times}
use Rattle.sx_filter.proofs.KeptAlone.{number_itself}
use Rattle.sx_outcome.specs.Gathering.{in_tx_order, put_tx}
use Rattle.sx_outcome.proofs.Totals.{In, sum_is, total}
use Rattle.sx_outcome.proofs.BodySums.{total_ordered}
use Rattle.sx_ledger.proofs.Insertion.{AreApart, Apart, put, put_all, put_all_in_order}
use Rattle.sx_ledger.specs.Body.{tx_before}
use Rattle.sx_tx.specs.declared.tx.Tx.{Tx}

-- ---- the numbers of accounts

abbrev pub Number : Type 0
Number = ℕ × ℕ

abbrev pub number_of : Tx → Number
number_of tx = (tx.account.0, tx.seq)

abbrev pub number_cmp : Number → Number → Ordering
number_cmp one other = ordering_then (nat_cmp one.0 other.0) (nat_cmp one.1 other.1)

pub number_total : IsTotalOrder number_cmp
number_total =
    then_total (on_total (λ (n : Number). n.0) nat_cmp_total) (on_total (λ (n : Number). n.1) nat_cmp_total)

abbrev pub before : Number → Number → Bool
before one other = is_lt (number_cmp one other)

abbrev same : Number → Number → Bool
same one other = is_eq (number_cmp one other)

nat_less : (a b : ℕ) → is_lt (nat_cmp a b) ≡ nat_lt a b
nat_less a b = elim (cases_Bool (nat_lt a b)) [
  | inl e ↦ rw e refl
  | inr e ↦ rw e (elim (cases_Bool (a == b)) [ inl f ↦ rw f refl | inr f ↦ rw f refl ])
]

pub nat_same : (a b : ℕ) → is_eq (nat_cmp a b) ≡ (a == b)
nat_same a b = elim (cases_order a b) [
  | inl e ↦ let fails : b ≤ a = omega (arith, e) in rw (le-ltb a b fails) (rw (eq-eqb a b e) refl)
  | inr (inl lt) ↦ rw (lt-ltb a b lt) (sym (ne_eqb a b (λ e. absurd (omega (arith, e, lt)))))
  | inr (inr gt) ↦ rw (le-ltb a b (omega arith)) (rw (ne_eqb a b (λ e. absurd (omega (arith, e, gt)))) refl)
]

number_less : (a b c d : ℕ) → before (a, b) (c, d) ≡ (nat_lt a c || ((a == c) && nat_lt b d))
number_less a b c d = elim (cases_order a c) [
  | inl e ↦
      let fails : c ≤ a = omega (arith, e) in
      rw (le-ltb a c fails) (rw (eq-eqb a c e) (nat_less b d))
  | inr (inl lt) ↦ rw (lt-ltb a c lt) refl
  | inr (inr gt) ↦ rw (le-ltb a c (omega arith)) (rw (ne_eqb a c (λ e. absurd (omega (arith, e, gt)))) refl)
]

pub number_same : (a b c d : ℕ) → same (a, b) (c, d) ≡ ((a == c) && (b == d))
number_same a b c d = elim (cases_order a c) [
  | inl e ↦
      let fails : c ≤ a = omega (arith, e) in
      rw (le-ltb a c fails) (rw (eq-eqb a c e) (nat_same b d))
  | inr (inl lt) ↦ rw (lt-ltb a c lt) (rw (ne_eqb a c (λ e. absurd (omega (arith, e, lt)))) refl)
  | inr (inr gt) ↦ rw (le-ltb a c (omega arith)) (rw (ne_eqb a c (λ e. absurd (omega (arith, e, gt)))) refl)
]

pub before_is : (one other : Tx) → tx_before one other ≡ before (number_of one) (number_of other)
before_is one other = sym (number_less one.account.0 one.seq other.account.0 other.seq)

less_is : (o : Ordering) → is_lt o ≡ true → o ≡ Less
less_is Less e = refl
less_is Equal e = absurd cc
less_is Greater e = absurd cc

pub through : (a b c : Number) → before a b ≡ true → before b c ≡ true → before a c ≡ true
through a b c one two =
    ap is_lt (number_total.trans a b c (less_is (number_cmp a b) one) (less_is (number_cmp b c) two))

not_itself : (a : Number) → before a a ≡ true → ⊥
not_itself a e = let tied = ap is_lt (tied_itself number_total a) in absurd cc

same_is : (a b : Number) → same a b ≡ true → a ≡ b
same_is a b e =
    let both = and_parts (a.0 == b.0) (a.1 == b.1) (sym (number_same a.0 a.1 b.0 b.1) ∙ e) in
    λ i. (eqb-true a.0 b.0 both.0 i, eqb-true a.1 b.1 both.1 i)

same_self : (a : Number) → same a a ≡ true
same_self a = ap is_eq (tied_itself number_total a)

turned : (o back : Ordering) → back ≡ ordering_reverse o → is_lt o ≡ false → is_eq o ≡ false → is_lt back ≡ true
turned Less back e less equal = absurd cc
turned Equal back e less equal = absurd cc
turned Greater back e less equal = ap is_lt e

one_way : (a b : Number) → before a b ≡ true → before b a ≡ false
one_way a b e = false_from_ne_true (before b a) (λ back. not_itself a (through a b a e back))

-- ---- the order of a body

put_is : (new : Tx) (txs : List Tx) → put_tx new txs ≡ put number_of before new txs
put_is new [] = refl
put_is new (tx ∷ txs) =
    λ i. cond (before_is new tx i) (new ∷ tx ∷ txs) (tx ∷ put_is new txs i)

pub order_is : (txs : List Tx) → in_tx_order txs ≡ put_all number_of before txs []
order_is [] = refl
order_is (tx ∷ txs) = ap (put_tx tx) (order_is txs) ∙ put_is tx (put_all number_of before txs [])

pub ordered_moves : (txs : List Tx) → IsPermutation txs (in_tx_order txs)
ordered_moves txs =
    subst (IsPermutation txs) (sym (order_is txs))
    (subst (λ (xs : List Tx). IsPermutation xs (put_all number_of before txs [])) (append-nil txs)
    (put_all_moves number_of before txs []))

pub in_ordered : (x : Tx) (txs : List Tx) → In x txs → In x (in_tx_order txs)
in_ordered x txs is =
    in_contains x (in_tx_order txs)
    (Contains-permutation txs (in_tx_order txs) x (ordered_moves txs) (contains_in x txs is))

pub ordered_in : (x : Tx) (txs : List Tx) → In x (in_tx_order txs) → In x txs
ordered_in x txs is =
    in_contains x txs
    (Contains-permutation (in_tx_order txs) txs x (IsPermutation-sym txs (in_tx_order txs) (ordered_moves txs))
    (contains_in x (in_tx_order txs) is))

-- ---- lists in which each number stands once

abbrev pub Once : List Tx → Type 0
Once txs = (x : Tx) → In x txs → times (same_number x) txs ≤ 1

rest_once : (tx : Tx) (txs : List Tx) → Once (tx ∷ txs) → Once txs
rest_once tx txs once x is = omega (arith, once x (inr is))

none_more : (tx : Tx) (txs : List Tx) → Once (tx ∷ txs) → times (same_number tx) txs ≡ 0
none_more tx txs once =
    let one : ℕ = 1 in
    let here : cond (same_number tx tx) one 0 ≡ one = rw (number_itself tx) refl in
    omega (arith, once tx (inl refl), here)

apart_from : (tx : Tx) (txs : List Tx) → times (same_number tx) txs ≡ 0
    → AllByRecursion (Apart number_of before tx) txs
apart_from tx [] none = tt
apart_from tx (x ∷ txs) none =
    elim (cases_Bool (same_number tx x)) [
      | inl e ↦ absurd (omega (arith, rw e at none))
      | inr e ↦
          let rest : times (same_number tx) txs ≡ 0 = omega (arith, rw e at none) in (
            λ less. turned (number_cmp (number_of tx) (number_of x)) (number_cmp (number_of x) (number_of tx))
                (number_total.antisymm (number_of x) (number_of tx)) less
                (number_same tx.account.0 tx.seq x.account.0 x.seq ∙ e),
            apart_from tx txs rest,
          )
    ]

are_apart : (txs : List Tx) → Once txs → AreApart number_of before txs []
are_apart [] once = tt
are_apart (tx ∷ txs) once =
    (apart_from tx txs (none_more tx txs once), tt, are_apart txs (rest_once tx txs once))

-- in order they rise
numbers_rise : (txs : List Tx) → Once txs → in_order before None (map number_of (in_tx_order txs)) ≡ true
numbers_rise txs once =
    ap (λ (xs : List Tx). in_order before None (map number_of xs)) (order_is txs)
    ∙ put_all_in_order number_of before txs [] (are_apart txs once) refl

in_order_after : (tx : Tx) (txs : List Tx)
    → in_order before (Some (number_of tx)) (map number_of txs) ≡ in_order tx_before (Some tx) txs
in_order_after tx [] = refl
in_order_after tx (next ∷ txs) = λ i. sym (before_is tx next) i && in_order_after next txs i

in_order_numbers : (txs : List Tx) → in_order before None (map number_of txs) ≡ in_order tx_before None txs
in_order_numbers [] = refl
in_order_numbers (tx ∷ txs) = ap (λ (b : Bool). true && b) (in_order_after tx txs)

pub ordered : (txs : List Tx) → Once txs → in_order tx_before None (in_tx_order txs) ≡ true
ordered txs once = sym (in_order_numbers (in_tx_order txs)) ∙ numbers_rise txs once

-- ---- one list

-- the sorted list of them is theirs in order
pub sorted_is : (xs ys : List Tx) → Once xs → IsPermutation xs ys
    → IsSortedBy (λ x y. before (number_of x) (number_of y)) ys → ys ≡ in_tx_order xs
sorted_is xs ys once moves sorted =
    sym (one_list number_of before same same_is same_self through not_itself (in_tx_order xs) ys
    (numbers_rise xs once)
    (sorted_far (λ x y. before (number_of x) (number_of y)) (ranks_by number_total number_of) ys sorted)
    (IsPermutation-trans (in_tx_order xs) xs ys (IsPermutation-sym xs (in_tx_order xs) (ordered_moves xs)) moves))

-- in a list in order, each stands before all behind it
all_behind : (k : Number) (xs : List Tx) → in_order before (Some k) (map number_of xs) ≡ true
    → AllByRecursion (λ z. before k (number_of z) ≡ true) xs
all_behind k [] rises = tt
all_behind k (x ∷ xs) rises =
    let both = and_parts (before k (number_of x)) (in_order before (Some (number_of x)) (map number_of xs)) rises in
    (both.0, further both.0 xs (all_behind (number_of x) xs both.1))
  where
    further : before k (number_of x) ≡ true → (ys : List Tx)
        → AllByRecursion (λ z. before (number_of x) (number_of z) ≡ true) ys
        → AllByRecursion (λ z. before k (number_of z) ≡ true) ys
    further first [] all = tt
    further first (y ∷ ys) all = (through k (number_of x) (number_of y) first all.0, further first ys all.1)

abbrev Strict : List Tx → Type 0
Strict [] = Unit {0}
Strict (x ∷ xs) = AllByRecursion (λ z. before (number_of x) (number_of z) ≡ true) xs × Strict xs

strict_from : (previous : Option Number) (xs : List Tx) → in_order before previous (map number_of xs) ≡ true → Strict xs
strict_from previous [] rises = tt
strict_from previous (x ∷ xs) rises =
    let both = and_parts (may_follow before previous (number_of x))
    (in_order before (Some (number_of x)) (map number_of xs)) rises in
    (all_behind (number_of x) xs both.1, strict_from (Some (number_of x)) xs both.1)

one_after : (xs : List Tx) → Strict xs → (k : ℕ) (d : Tx) → k + 1 < length xs
    → before (number_of (get_or xs (k + 1) d)) (number_of (get_or xs k d)) ≡ false
one_after [] strict k d lt = absurd (omega arith)
one_after (x ∷ []) strict k d lt = absurd (omega arith)
one_after (x ∷ y ∷ xs) strict zero d lt = one_way (number_of x) (number_of y) strict.0.0
one_after (x ∷ y ∷ xs) strict (suc k) d lt =
    let same : suc k + 1 ≡ suc (k + 1) = omega arith in
    rw same (one_after (y ∷ xs) strict.1 k d (omega arith))

-- lists with the same elements and the same sums have the same order
pub same_ordered : (xs ys : List Tx) → Once xs → Once ys → ((f : Tx → ℕ) → total f ys ≡ total f xs)
    → ((y : Tx) → In y ys → In y xs) → in_tx_order xs ≡ in_tx_order ys
same_ordered xs ys once too sums among =
    same_order number_of before same same_is same_self through not_itself (in_tx_order xs) (in_tx_order ys)
    (strict_from None (in_tx_order xs) (numbers_rise xs once))
    (sorted_far (λ x y. before (number_of x) (number_of y)) (ranks_by number_total number_of) (in_tx_order ys)
    (λ k d low lt. one_after (in_tx_order ys) (strict_from None (in_tx_order ys) (numbers_rise ys too)) k d lt))
    (λ f. sum_is f (in_tx_order ys) ∙ total_ordered f ys ∙ sums f
    ∙ sym (sum_is f (in_tx_order xs) ∙ total_ordered f xs))
    (λ k d lt.
    let y = get_or (in_tx_order ys) k d in
    contains_in y (in_tx_order xs) (in_ordered y xs (among y (ordered_in y ys (in_contains y (in_tx_order ys)
    (Contains-get_or (in_tx_order ys) k d lt))))))
