-- Two lists in order that have the same elements, by keys that differ, are the same list.
use Rattle.std.proofs.Common.{◌≡◌, ◌≢◌, ℕ, zero, suc, ◌<◌, ◌≤◌, Bool, true, false, cond, List, [], ◌∷◌, ◌++◌, length}
use Rattle.std.proofs.Common.{get_or, map, All, Contains, sum_by, Option, Some, None, inl, inr, refl, sym, ap, ap₂}
use Rattle.std.proofs.Common.{◌∙◌, arith}
use Rattle.std.specs.List.{AllByRecursion}
use Rattle.std.specs.List.Sorted.{IsPermutation}
use Rattle.std.proofs.lemmas.Bool.{and_parts, cases_Bool, false_from_ne_true}
use Rattle.std.proofs.lemmas.List.Elements.{All-contains_itself, All-from_recursion, All-head, All-tail}
use Rattle.std.proofs.lemmas.List.Elements.{recursion_from_All}
use Rattle.std.proofs.lemmas.List.Sorted.{All-permutation, IsPermutation-cons, IsPermutation-middle}
use Rattle.std.proofs.lemmas.List.Sorted.{IsPermutation-refl, IsPermutation-sym, IsPermutation-trans}
use Rattle.std.proofs.lemmas.List.Sorted.{sum_by-IsPermutation}
use Rattle.std.proofs.lemmas.List.Sums.{get_or-le-sum_by, sum_by-cons}
use Rattle.sx_bytes.specs.Grammar.{in_order, may_follow}
use Rattle.sx_ledger.proofs.Insertion.{put, put_all}

-- a number of elements that are put, each before the first one that it stands before
module _ {X K : Type 0} (mark : X → K) (before : K → K → Bool) where
  put_moves : (new : X) (xs : List X) → IsPermutation (new ∷ xs) (put mark before new xs)
  put_moves new [] = IsPermutation-refl (new ∷ [])
  put_moves new (x ∷ xs) =
      elim (cases_Bool (before (mark new) (mark x))) [
        | inl first ↦ rw first (IsPermutation-refl (new ∷ x ∷ xs))
        | inr later ↦ rw later
            (IsPermutation-trans (new ∷ x ∷ xs) (x ∷ new ∷ xs) (x ∷ put mark before new xs)
            (IsPermutation-sym (x ∷ new ∷ xs) (new ∷ x ∷ xs) (IsPermutation-middle (x ∷ []) new xs))
            (IsPermutation-cons x (new ∷ xs) (put mark before new xs) (put_moves new xs)))
      ]

  pub put_all_moves : (new xs : List X) → IsPermutation (new ++ xs) (put_all mark before new xs)
  put_all_moves [] xs = IsPermutation-refl xs
  put_all_moves (one ∷ new) xs =
      IsPermutation-trans (one ∷ (new ++ xs)) (one ∷ put_all mark before new xs) (put_all mark before (one ∷ new) xs)
      (IsPermutation-cons one (new ++ xs) (put_all mark before new xs) (put_all_moves new xs))
      (put_moves one (put_all mark before new xs))

  module _ (same : K → K → Bool) (same_is : (a b : K) → same a b ≡ true → a ≡ b) (same_self : (a : K) → same a a ≡ true)
      (through : (a b c : K) → before a b ≡ true → before b c ≡ true → before a c ≡ true)
      (not_itself : (a : K) → before a a ≡ true → ⊥) where
    -- ---- in order

    -- each stands before all behind it
    abbrev Strict : List X → Type 0
    Strict [] = Unit {0}
    Strict (x ∷ xs) = AllByRecursion (λ z. before (mark x) (mark z) ≡ true) xs × Strict xs

    all_behind : (k : K) (xs : List X) → in_order before (Some k) (map mark xs) ≡ true
        → AllByRecursion (λ z. before k (mark z) ≡ true) xs
    all_behind k [] ordered = tt
    all_behind k (x ∷ xs) ordered =
        let both = and_parts (before k (mark x)) (in_order before (Some (mark x)) (map mark xs)) ordered in
        (both.0, further xs (all_behind (mark x) xs both.1))
      where
        further : (ys : List X) → AllByRecursion (λ z. before (mark x) (mark z) ≡ true) ys
            → AllByRecursion (λ z. before k (mark z) ≡ true) ys
        further [] all = tt
        further (y ∷ ys) all =
            let first = (and_parts (before k (mark x)) (in_order before (Some (mark x)) (map mark xs)) ordered).0 in
            (through k (mark x) (mark y) first all.0, further ys all.1)

    strict_from : (previous : Option K) (xs : List X) → in_order before previous (map mark xs) ≡ true → Strict xs
    strict_from previous [] ordered = tt
    strict_from previous (x ∷ xs) ordered =
        let both = and_parts (may_follow before previous (mark x)) (in_order before (Some (mark x)) (map mark xs))
        ordered in
        (all_behind (mark x) xs both.1, strict_from (Some (mark x)) xs both.1)

    -- none stands before one in front of it
    abbrev pub IsRising : List X → Type 0
    IsRising ys =
        (i j : ℕ) (d : X) → i ≤ j → j < length ys → before (mark (get_or ys j d)) (mark (get_or ys i d)) ≡ false

    -- ---- elements of one key

    abbrev counted : K → X → ℕ
    counted key x = cond (same (mark x) key) 1 0

    differs : (a b : K) → (a ≡ b → ⊥) → same a b ≡ false
    differs a b other = false_from_ne_true (same a b) (λ e. other (same_is a b e))

    none_counted : (key : K) (xs : List X) → AllByRecursion (λ x. mark x ≢ key) xs → sum_by (counted key) xs ≡ 0
    none_counted key [] others = refl
    none_counted key (x ∷ xs) others =
        let here : counted key x ≡ 0 = rw (differs (mark x) key others.0) refl in
        omega (arith, sum_by-cons (counted key) x xs, none_counted key xs others.1)

    self_counted : (x : X) → counted (mark x) x ≡ 1
    self_counted x = rw (same_self (mark x)) refl

    above_differ : (x : X) (xs : List X) → AllByRecursion (λ z. before (mark x) (mark z) ≡ true) xs
        → AllByRecursion (λ z. mark z ≢ mark x) xs
    above_differ x [] above = tt
    above_differ x (z ∷ xs) above =
        (λ e. not_itself (mark x) (ap (before (mark x)) (sym e) ∙ above.0), above_differ x xs above.1)

    -- ---- one list

    abbrev InSums : List X → List X → Type 0
    InSums xs ys = (f : X → ℕ) → sum_by f ys ≡ sum_by f xs

    -- the first of both
    first_is : (x y : X) (xs ys : List X) → Strict (x ∷ xs) → IsRising (y ∷ ys) → InSums (x ∷ xs) (y ∷ ys)
        → Contains (x ∷ xs) y → x ≡ y
    first_is x y xs ys strict rising sums (zero, below, is) = is
    first_is x y xs ys strict rising sums (suc k, below, is) =
        let after : before (mark x) (mark y) ≡ true =
        ap (λ (z : X). before (mark x) (mark z)) (sym is)
        ∙ All-from_recursion (λ z. before (mark x) (mark z) ≡ true) xs strict.0 k y (omega arith) in
        let others : AllByRecursion (λ z. mark z ≢ mark x) (y ∷ ys) =
        recursion_from_All (λ z. mark z ≢ mark x) (y ∷ ys) (λ j d lt e.
        let first : before (mark (get_or (y ∷ ys) j d)) (mark y) ≡ false = rising 0 j d (omega arith) lt in
        let too : before (mark (get_or (y ∷ ys) j d)) (mark y) ≡ true = ap (λ (m : K). before m (mark y)) e ∙ after in
        absurd cc) in
        absurd (omega (
          arith,
          sums (counted (mark x)),
          none_counted (mark x) (y ∷ ys) others,
          sum_by-cons (counted (mark x)) x xs,
          self_counted x,
        ))

    pub same_order : (xs ys : List X) → Strict xs → IsRising ys → InSums xs ys → All (Contains xs) ys → xs ≡ ys
    same_order [] [] strict rising sums among = refl
    same_order [] (y ∷ ys) strict rising sums among = absurd (no (among 0 y (omega arith)))
      where
        no : Contains [] y → ⊥
        no (k, below, is) = absurd (omega arith)
    same_order (x ∷ xs) [] strict rising sums among =
        absurd (omega (arith, sums (λ _. 1), sum_by-cons (λ (_ : X). 1) x xs))
    same_order (x ∷ xs) (y ∷ ys) strict rising sums among =
        ap₂ (λ (z : X) (zs : List X). z ∷ zs) first
        (same_order xs ys strict.1 (λ i j d le lt. rising (suc i) (suc j) d (omega arith) (omega arith)) rest
        (λ k d lt. one (get_or ys k d) (get_or-le-sum_by (counted (mark x)) ys k d lt)
        (All-tail (Contains (x ∷ xs)) y ys among k d lt)))
      where
        first : x ≡ y
        first = first_is x y xs ys strict rising sums (All-head (Contains (x ∷ xs)) y ys among)

        rest : InSums xs ys
        rest f = omega (arith, sums f, sum_by-cons f x xs, sum_by-cons f y ys, ap f first)

        one : (z : X) → counted (mark x) z ≤ sum_by (counted (mark x)) ys → Contains (x ∷ xs) z → Contains xs z
        one z counts (suc k, below, is) = (k, omega arith, is)
        one z counts (zero, below, is) =
            let self : counted (mark x) z ≡ 1 = ap (counted (mark x)) (sym is) ∙ self_counted x in
            absurd (omega (
              arith,
              rest (counted (mark x)),
              none_counted (mark x) xs (above_differ x xs strict.0),
            ))

    pub one_list : (xs ys : List X) → in_order before None (map mark xs) ≡ true → IsRising ys → IsPermutation xs ys
        → xs ≡ ys
    one_list xs ys ordered rising moves =
        same_order xs ys (strict_from None xs ordered) rising (λ f. sum_by-IsPermutation f xs ys moves)
        (All-permutation (Contains xs) xs ys moves (All-contains_itself xs))
