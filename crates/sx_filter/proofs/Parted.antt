-- The parts by classes of accounts, one behind the other, are what passes of all candidates, sorted.
use Rattle.std.proofs.Common.{◌≡◌, ℕ, suc, ◌+◌, ◌<◌, ◌≤◌, Bool, true, false, List, [], ◌∷◌, ◌++◌, length, get_or}
use Rattle.std.proofs.Common.{append-nil, append_assoc, inl, inr, refl, sym, ap, subst, ◌∙◌, arith}
use Rattle.std.specs.Prelude.{nat_le, nat_lt, ◌==◌, not, ◌&&◌}
use Rattle.std.specs.List.{filter, flat_map}
use Rattle.std.specs.List.Sorted.{IsPermutation}
use Rattle.std.proofs.lemmas.Bool.{cases_Bool, cases_lt, cases_order, eq-eqb, eqb-true, le-leb, le-ltb, leb-true}
use Rattle.std.proofs.lemmas.Bool.{lt-ltb, ltb-true, ne_eqb}
use Rattle.std.proofs.lemmas.List.Elements.{filter-append}
use Rattle.std.proofs.lemmas.List.Sorted.{Contains-permutation, IsPermutation-append, IsPermutation-filter_both}
use Rattle.std.proofs.lemmas.List.Sorted.{IsPermutation-refl, IsPermutation-sym, IsPermutation-trans}
use Rattle.std.proofs.lemmas.List.Sums.{count_by-le-length}
use Rattle.sx_filter.specs.Alone.{is_alone}
use Rattle.sx_filter.specs.Kept.{kept_of, passes, passing}
use Rattle.sx_filter.specs.Classes.{AreClasses, AreParted}
use Rattle.sx_filter.specs.Ranges.{is_at, range_among}
use Rattle.sx_filter.specs.Part.{IsPart}
use Rattle.sx_filter.proofs.Appended.{sorted_append}
use Rattle.sx_filter.proofs.Counts.{contains_in, count_is, filter_twice, in_contains, in_filter, times}
use Rattle.sx_filter.proofs.KeptLaws.{kept_permuted}
use Rattle.sx_filter.proofs.KeptSorted.{kept_sorted}
use Rattle.sx_filter.proofs.PartOrder.{passing_sorted}
use Rattle.sx_outcome.proofs.Totals.{In}
use Rattle.sx_ledger.specs.declared.parts.Parts.{Parts}
use Rattle.sx_tx.specs.declared.tx.Tx.{Tx}

-- ---- ranges rise with the accounts

no_fewer : (a b : ℕ) → a ≤ b → (cuts : List ℕ) → times (λ cut. nat_le cut a) cuts ≤ times (λ cut. nat_le cut b) cuts
no_fewer a b le [] = omega arith
no_fewer a b le (cut ∷ cuts) =
    let rest = no_fewer a b le cuts in
    elim (cases_Bool (nat_le cut a)) [
      | inl e ↦
          let low = leb-true cut a e in
          let too : nat_le cut b ≡ true = le-leb cut b (omega (arith, low, le)) in
          rw (e, too) (omega (arith, rest))
      | inr e ↦ rw e (elim (cases_Bool (nat_le cut b)) [
        | inl f ↦ rw f (omega (arith, rest))
        | inr f ↦ rw f (omega (arith, rest))
      ])
    ]

ranges_rise : (cuts : List ℕ) (a b : ℕ) → range_among cuts a < range_among cuts b → a < b
ranges_rise cuts a b less = elim (cases_lt a b) [
  | inl lt ↦ lt
  | inr most ↦
      absurd (omega (
        arith,
        less,
        no_fewer b a most cuts,
        count_is (λ cut. nat_le cut a) cuts,
        count_is (λ cut. nat_le cut b) cuts,
      ))
]

pub ranges_are : (cuts : List ℕ) (count : ℕ) → count ≡ length cuts + 1 → AreClasses (range_among cuts) count
ranges_are cuts count are = record {
  rise = ranges_rise cuts;
  few = λ a. omega (arith, are, count_by-le-length (λ cut. nat_le cut a) cuts);
}

-- ---- the candidates of the first classes

abbrev is_below : (ℕ → ℕ) → ℕ → Tx → Bool
is_below class_of n tx = nat_lt (class_of tx.account.0) n

pub filter_all : (p : Tx → Bool) (xs : List Tx) → ((x : Tx) → p x ≡ true) → filter p xs ≡ xs
filter_all p [] all = refl
filter_all p (x ∷ xs) all = rw (all x) (ap (λ (list : List Tx). x ∷ list) (filter_all p xs all))

filter_none : (p : Tx → Bool) (xs : List Tx) → ((x : Tx) → p x ≡ false) → filter p xs ≡ []
filter_none p [] none = refl
filter_none p (x ∷ xs) none = rw (none x) (filter_none p xs none)

lower : (r n : ℕ) → (nat_lt r (suc n) && nat_lt r n) ≡ nat_lt r n
lower r n = elim (cases_order r n) [
  | inl e ↦ rw (le-ltb r n (omega (arith, e))) (rw (lt-ltb r (suc n) (omega (arith, e))) refl)
  | inr (inl lt) ↦ rw (lt-ltb r n lt) (rw (lt-ltb r (suc n) (omega (arith, lt))) refl)
  | inr (inr gt) ↦ rw (le-ltb r n (omega (arith, gt))) (rw (le-ltb r (suc n) (omega (arith, gt))) refl)
]

last : (r n : ℕ) → (nat_lt r (suc n) && not (nat_lt r n)) ≡ (r == n)
last r n = elim (cases_order r n) [
  | inl e ↦
      rw (le-ltb r n (omega (arith, e))) (rw (lt-ltb r (suc n) (omega (arith, e))) (sym (eq-eqb r n e)))
  | inr (inl lt) ↦
      rw (lt-ltb r n lt) (rw (lt-ltb r (suc n) (omega (arith, lt)))
      (sym (ne_eqb r n (λ e. absurd (omega (arith, e, lt))))))
  | inr (inr gt) ↦
      rw (le-ltb r n (omega (arith, gt))) (rw (le-ltb r (suc n) (omega (arith, gt)))
      (sym (ne_eqb r n (λ e. absurd (omega (arith, e, gt))))))
]

module _ (class_of : ℕ → ℕ) (rise : (a b : ℕ) → class_of a < class_of b → a < b) (candidates : List Tx) where
  abbrev below : ℕ → List Tx
  below n = filter (is_below class_of n) candidates

  abbrev within : ℕ → List Tx
  within n = filter (is_at class_of n) candidates

  one_more : (n : ℕ) → IsPermutation (below (suc n)) (below n ++ within n)
  one_more n =
      let rank : Tx → ℕ = λ tx. class_of tx.account.0 in
      let front : filter (is_below class_of n) (below (suc n)) ≡ below n =
      sym (filter_twice (is_below class_of (suc n)) (is_below class_of n) candidates)
      ∙ (λ i. filter (λ tx. lower (rank tx) n i) candidates) in
      let back : filter (λ tx. not (is_below class_of n tx)) (below (suc n)) ≡ within n =
      sym (filter_twice (is_below class_of (suc n)) (λ tx. not (is_below class_of n tx)) candidates)
      ∙ (λ i. filter (λ tx. last (rank tx) n i) candidates) in
      subst (λ (list : List Tx). IsPermutation (below (suc n)) (list ++ within n)) front
      (subst (λ (list : List Tx). IsPermutation (below (suc n)) (filter (is_below class_of n) (below (suc n)) ++ list)) back
      (IsPermutation-filter_both (is_below class_of n) (λ tx. not (is_below class_of n tx)) (λ x. refl) (below (suc n))))

  module _ (parts : Parts) where
    pub among : (p : Tx → Bool) (part : List Tx) (is : IsPart parts (filter p candidates) part) (x : Tx) → In x is.all
        → p x ≡ true
    among p part is x there =
        (in_filter p x candidates (in_contains x (filter p candidates)
        (Contains-permutation is.all (filter p candidates) x
        (IsPermutation-sym (filter p candidates) is.all is.moves) (contains_in x is.all there)))).1

    more : (n : ℕ) (txs part : List Tx) → IsPart parts (below n) txs → IsPart parts (within n) part
        → IsPart parts (below (suc n)) (txs ++ part)
    more n txs part first second = record {
      all = first.all ++ second.all;
      moves = IsPermutation-trans (below (suc n)) (below n ++ within n) (first.all ++ second.all) (one_more n)
          (IsPermutation-append (below n) first.all (within n) second.all first.moves second.moves);
      sorted = sorted_append first.all second.all first.sorted second.sorted (λ x y is too.
          let low = ltb-true (class_of x.account.0) n (among (is_below class_of n) txs first x is) in
          let here = eqb-true (class_of y.account.0) n (among (is_at class_of n) part second y too) in
          rise x.account.0 y.account.0 (omega (arith, low, here)));
      are = (λ i. first.are i ++ second.are i) ∙ sym (filter-append (passes parts) first.all second.all);
    }

    all_more : (n : ℕ) (txs : List Tx) → IsPart parts (below n) txs → (lists : List (List Tx))
        → ((k : ℕ) (d : List Tx) → k < length lists → IsPart parts (within (n + k)) (get_or lists k d))
        → IsPart parts (below (n + length lists)) (txs ++ flat_map (λ list. list) lists)
    all_more n txs is [] each =
        let same : n ≡ n + 0 = omega arith in
        subst (λ (k : ℕ). IsPart parts (below k) (txs ++ [])) same
        (subst (IsPart parts (below n)) (sym (append-nil txs)) is)
    all_more n txs is (part ∷ lists) each =
        let same : suc n + length lists ≡ n + suc (length lists) = omega arith in
        let here : n + 0 ≡ n = omega arith in
        let first : IsPart parts (within n) part =
        subst (λ (k : ℕ). IsPart parts (within k) part) here (each 0 [] (omega arith)) in
        subst (λ (k : ℕ). IsPart parts (below k) (txs ++ (part ++ flat_map (λ list. list) lists))) same
        (subst (IsPart parts (below (suc n + length lists)))
        (append_assoc txs part (flat_map (λ list. list) lists))
        (all_more (suc n) (txs ++ part) (more n txs part is first) lists (λ k d lt.
        let place : n + suc k ≡ suc n + k = omega arith in
        subst (λ (j : ℕ). IsPart parts (within j) (get_or lists k d)) place (each (suc k) d (omega (arith, lt))))))

    nothing : IsPart parts (below 0) []
    nothing = record {
      all = [];
      moves = subst (λ (list : List Tx). IsPermutation list [])
          (sym (filter_none (is_below class_of 0) candidates
          (λ x. le-ltb (class_of x.account.0) 0 (omega arith)))) (IsPermutation-refl []);
      sorted = λ k d low lt. absurd (omega (arith, lt));
      are = refl;
    }

    whole : (lists : List (List Tx)) → ((a : ℕ) → class_of a < length lists)
        → ((k : ℕ) (d : List Tx) → k < length lists → IsPart parts (within k) (get_or lists k d))
        → IsPart parts candidates (flat_map (λ list. list) lists)
    whole lists few each =
        let every : below (0 + length lists) ≡ candidates =
        filter_all (is_below class_of (0 + length lists)) candidates (λ x.
        lt-ltb (class_of x.account.0) (0 + length lists) (omega (arith, few x.account.0))) in
        subst (λ (list : List Tx). IsPart parts list (flat_map (λ list. list) lists)) every
        (all_more 0 [] nothing lists (λ k d lt.
        let place : k ≡ 0 + k = omega arith in
        subst (λ (j : ℕ). IsPart parts (within j) (get_or lists k d)) place (each k d lt)))

pub parted_whole : (parts : Parts) (candidates : List Tx) (lists : List (List Tx)) → AreParted parts candidates lists
    → IsPart parts candidates (flat_map (λ list. list) lists)
parted_whole parts candidates lists is = whole is.class_of is.classes.rise candidates parts lists is.classes.few is.each

-- ---- what is kept of all candidates

module _ (parts : Parts) (candidates txs : List Tx) (is : IsPart parts candidates txs) where
  pub part_kept : filter (is_alone parts txs) txs ≡ kept_of parts candidates
  part_kept =
      subst (λ (list : List Tx). filter (is_alone parts list) list ≡ kept_of parts candidates) (sym is.are)
      (kept_sorted parts is.all (passing parts is.all) (IsPermutation-refl (passing parts is.all))
      (passing_sorted parts candidates txs is)
      ∙ kept_permuted parts candidates is.all is.moves)
