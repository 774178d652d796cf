-- The order of keys: by pairs first, and of lists that are sorted by it.
use Rattle.std.proofs.Common.{◌≡◌, ℕ, zero, suc, ◌+◌, ◌*◌, ◌<◌, ◌≤◌, Bool, true, false, IsTrue, List, [], ◌∷◌, ◌++◌}
use Rattle.std.proofs.Common.{map, Option, Some, None, inl, inr, refl, sym, ap, ◌∙◌, arith}
use Rattle.std.specs.List.{AllByRecursion}
use Rattle.std.specs.List.Sorted.{IsStrictlySortedBy}
use Rattle.std.specs.declared.cmp.Ordering.{Ordering}
use Rattle.std.specs.declared.cmp.Ordering.TheVariants.{Less, Equal, Greater}
use Rattle.std.specs.Ordering.{is_lt, is_eq, nat_cmp, ordering_reverse}
use Rattle.std.proofs.lemmas.Bool.{and_from, cases_lt, cases_order, false_from_ne_true}
use Rattle.std.proofs.lemmas.Cmp.{tied_itself}
use Rattle.std.proofs.lemmas.Grind.{common_steps}
use Rattle.std.proofs.lemmas.Bool.Decides.{nat_tests}
use Rattle.sx_bytes.specs.Grammar.{in_order, may_follow}
use Rattle.sx_bytes.proofs.Ordered.{and_parts}
use Rattle.sx_book.specs.Store.{list_of}
use Rattle.sx_book.proofs.Lists.{all_unmapped, all_weaker}
use Rattle.sx_ledger.specs.declared.key.Key.{Key}
use Rattle.sx_ledger.specs.contracts.key.KeyOrd.TheImpl as derived
use Rattle.sx_ledger.specs.Order.{key_before, key_cmp, same_key}
use Rattle.sx_ledger.proofs.KeyOrder.{key_cmp_total, key_cmp_derived, same_key_is, same_key_from, equal_is}
use Rattle.sx_ledger.proofs.KeyOrder.{equal_from, before_both, before_differs}

-- the derived comparison is the order of keys
pub cmp_same : derived.ghosts.cmp ≡ key_cmp
cmp_same = λ i one other. key_cmp_derived one other i

-- ---- one key before another

pub less_from : (a b : Key) → key_before a b ≡ true → key_cmp a b ≡ Less
less_from a b before = by_order (key_cmp a b) before
  where
    by_order : (o : Ordering) → is_lt o ≡ true → o ≡ Less
    by_order Less e = refl
    by_order Equal e = absurd cc
    by_order Greater e = absurd cc

pub greater_from : (a b : Key) → key_before a b ≡ true → key_cmp b a ≡ Greater
greater_from a b before = key_cmp_total.antisymm b a ∙ ap ordering_reverse (less_from a b before)

pub not_itself : (a : Key) → key_before a a ≡ true → ⊥
not_itself a before =
    let differs = before_differs a a before in
    let same = same_key_from a a refl in
    cc

pub not_both : (a b : Key) → key_before a b ≡ true → key_before b a ≡ true → ⊥
not_both a b first second = not_itself a (before_both a b a first second)

pub not_back : (a b : Key) → key_before a b ≡ true → key_before b a ≡ false
not_back a b before = false_from_ne_true (key_before b a) (λ e. not_both a b before e)

-- ---- pairs

pub sells_less : (a b : Key) → a.sell < b.sell → key_before a b ≡ true
sells_less a b lt = grind (arith, common_steps, nat_tests)

pub buys_less : (a b : Key) → a.sell ≡ b.sell → a.buy < b.buy → key_before a b ≡ true
buys_less a b same lt = grind (arith, common_steps, nat_tests)

pub pair_before : (a b : Key) → a.buy < 32 → b.buy < 32 → list_of a.sell a.buy < list_of b.sell b.buy
    → key_before a b ≡ true
pair_before a b in_range in_range' lt =
    elim (cases_lt a.sell b.sell) [
      | inl sells ↦ sells_less a b sells
      | inr others ↦ buys_less a b (omega arith) (omega arith)
    ]

-- what comes before a key and not before another of the same pair is of that pair
pub same_pair : (a e key : Key) → a.sell ≡ key.sell → a.buy ≡ key.buy → key_before e a ≡ false → key_before e key ≡ true
    → (e.sell ≡ key.sell) × (e.buy ≡ key.buy)
same_pair a e key sell buy not_before before =
    let low : key.sell ≤ e.sell = elim (cases_lt e.sell a.sell) [
      | inl lt ↦ (let first = sells_less e a lt in absurd cc)
      | inr ge ↦ omega arith
    ] in
    let high : e.sell ≤ key.sell = elim (cases_lt key.sell e.sell) [
      | inl lt ↦ absurd (not_both e key before (sells_less key e lt))
      | inr ge ↦ ge
    ] in
    let sold : e.sell ≡ key.sell = omega arith in
    let low' : key.buy ≤ e.buy = elim (cases_lt e.buy a.buy) [
      | inl lt ↦ (let first = buys_less e a (sold ∙ sym sell) lt in absurd cc)
      | inr ge ↦ omega arith
    ] in
    let high' : e.buy ≤ key.buy = elim (cases_lt key.buy e.buy) [
      | inl lt ↦ absurd (not_both e key before (buys_less key e (sym sold) lt))
      | inr ge ↦ ge
    ] in
    (sold, omega arith)

-- ---- sorted lists

abbrev pub Sorted : List Key → Type 0
Sorted keys = IsStrictlySortedBy key_cmp keys

module _ {X : Type 0} (key : X → Key) where
  pub sorted_around : (xs : List X) (y : X) (ys : List X) → Sorted (map key (xs ++ y ∷ ys))
      → AllByRecursion (λ x. key_before (key x) (key y) ≡ true) xs
      × AllByRecursion (λ x. key_before (key y) (key x) ≡ true) ys
  unfolding IsStrictlySortedBy
  sorted_around [] y ys sorted = (
    tt,
    all_weaker (λ x. key_cmp (key y) (key x) ≡ Less) (λ x. key_before (key y) (key x) ≡ true)
        (λ x less. ap is_lt less) ys
        (all_unmapped (λ k. key_cmp (key y) k ≡ Less) key ys sorted.0),
  )
  sorted_around (x ∷ xs) y ys sorted =
      let rest = sorted_around xs y ys sorted.1 in
      ((ap is_lt (among xs sorted.0), rest.0), rest.1)
    where
      among : (zs : List X) → AllByRecursion (λ k. key_cmp (key x) k ≡ Less) (map key (zs ++ y ∷ ys))
          → key_cmp (key x) (key y) ≡ Less
      among [] all = all.0
      among (z ∷ zs) all = among zs all.1

-- ---- in order, and sorted

in_order_after : (k : Key) (ks : List Key) → AllByRecursion (λ y. key_cmp k y ≡ Less) ks → Sorted ks
    → in_order key_before (Some k) ks ≡ true
unfolding IsStrictlySortedBy
in_order_after k [] all sorted = refl
in_order_after k (y ∷ ys) all sorted =
    and_from (key_before k y) (in_order key_before (Some y) ys) (ap is_lt all.0) (in_order_after y ys sorted.0 sorted.1)

pub in_order_from : (ks : List Key) → Sorted ks → in_order key_before None ks ≡ true
unfolding IsStrictlySortedBy
in_order_from [] sorted = refl
in_order_from (k ∷ ks) sorted = in_order_after k ks sorted.0 sorted.1

sorted_after : (k : Key) (ks : List Key) → in_order key_before (Some k) ks ≡ true
    → AllByRecursion (λ y. key_cmp k y ≡ Less) ks × Sorted ks
unfolding IsStrictlySortedBy
sorted_after k [] ordered = (tt, tt)
sorted_after k (y ∷ ys) ordered =
    let both = and_parts (key_before k y) (in_order key_before (Some y) ys) ordered in
    let rest = sorted_after y ys both.1 in
    let first = less_from k y both.0 in (
      (
        first,
        all_weaker (λ z. key_cmp y z ≡ Less) (λ z. key_cmp k z ≡ Less)
            (λ z less. key_cmp_total.trans k y z first less)
            ys rest.0,
      ),
      rest,
    )

pub sorted_from : (ks : List Key) → in_order key_before None ks ≡ true → Sorted ks
unfolding IsStrictlySortedBy
sorted_from [] ordered = tt
sorted_from (k ∷ ks) ordered = sorted_after k ks ordered
