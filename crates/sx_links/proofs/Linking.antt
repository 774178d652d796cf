-- What two or three writes make of a pool whose indexes agree.
use Rattle.std.proofs.Common.{◌≡◌, ◌≢◌, ◌⊎◌, ℕ, ◌<◌, length, Option, Some, None, refl, sym, ap, ◌∙◌, inl, inr, arith}
use Rattle.std.proofs.lemmas.Bool.{cases_eq}
use Rattle.std.proofs.lemmas.List.{get_or_past}
use Rattle.std.proofs.lemmas.Option.{slice_get_within, slice_get_past}
use Rattle.std.proofs.lemmas.Grind.{common_steps}
use Rattle.sx_links.specs.declared.pool.Place.{Place}
use Rattle.sx_links.specs.declared.pool.Place.TheVariants.{Free, Front, After}
use Rattle.sx_links.specs.declared.pool.Pool.{Pool}
use Rattle.sx_links.specs.Pool.{next_of, before_of, slot_of, value_of, HasPlace, Mutual, IsLoose, SetsNext, Joins}
use Rattle.sx_links.specs.Pool.{Inserts, Removes, Refills, Appends}

-- two places are one or not
pub cases_place : (p q : Place) → (p ≡ q) ⊎ (p ≢ q)
cases_place Free Free = inl refl
cases_place Free (Front l) = inr (λ e. cc)
cases_place Free (After k) = inr (λ e. cc)
cases_place (Front l) Free = inr (λ e. cc)
cases_place (Front l) (Front m) =
    elim (cases_eq l m) [ inl e ↦ inl (ap Front e) | inr n ↦ inr (λ e. n (let f = e in cc)) ]
cases_place (Front l) (After k) = inr (λ e. cc)
cases_place (After k) Free = inr (λ e. cc)
cases_place (After k) (Front l) = inr (λ e. cc)
cases_place (After k) (After j) =
    elim (cases_eq k j) [ inl e ↦ inl (ap After e) | inr n ↦ inr (λ e. n (let f = e in cc)) ]

module _ {T : Type 0} where
  -- a node that says what it stands behind is there
  pub before_within : (p : Pool T) (m : ℕ) (q : Place) → before_of p m ≡ Some q → m < length p.nodes.items
  unfolding before_of
  before_within p m q h = grind (arith, slice_get_past)

  -- and so is one with a value
  pub value_within : (p : Pool T) (n : ℕ) (v : T) → value_of p n ≡ Some v → n < length p.nodes.items
  unfolding slot_of
  value_within p n v h = grind (arith, slice_get_past)

  -- a place that a node follows is there
  pub HasPlace-followed : (p : Pool T) (q : Place) (m : ℕ) → next_of p q ≡ Some m → HasPlace p q
  unfolding next_of
  HasPlace-followed p Free m h = tt
  HasPlace-followed p (Front l) m h = grind (arith, get_or_past)
  HasPlace-followed p (After k) m h = grind (arith, slice_get_past)

  -- a place stays where the pool keeps its size
  pub HasPlace-same : (p r : Pool T) (q : Place) → length r.fronts.items ≡ length p.fronts.items →
      length r.nodes.items ≡ length p.nodes.items → HasPlace p q → HasPlace r q
  HasPlace-same p r Free fronts nodes has = tt
  HasPlace-same p r (Front l) fronts nodes has = rw fronts has
  HasPlace-same p r (After k) fronts nodes has = rw nodes has

  -- a node follows the place that it says to stand behind, if any
  pub follows_before : (p : Pool T) (q r : Place) (m : ℕ) → Mutual p → next_of p q ≡ Some m →
      before_of p m ≡ Some r → next_of p r ≡ Some m
  follows_before p q r m agrees follows says =
      let f = agrees q m follows in
      let same : q ≡ r = cc in
      ap (next_of p) (sym same) ∙ follows

  -- one place is before a node
  pub one_before : (p : Pool T) (q r : Place) (m : ℕ) → Mutual p → next_of p q ≡ Some m → next_of p r ≡ Some m → q ≡ r
  one_before p q r m agrees first second =
      let f = agrees q m first in
      let g = agrees r m second in
      cc

  pub Mutual-attach : (a b c : Pool T) (n : ℕ) (p : Place) → p ≢ After n → Mutual a → IsLoose a n →
      Joins a b (After n) (next_of a p) → Joins b c p (Some n) → Mutual c
  Mutual-attach a b c n p apart agrees loose first second q m h = by_place (cases_place q p) (cases_place q (After n))
    where
      by_place : (q ≡ p) ⊎ (q ≢ p) → (q ≡ After n) ⊎ (q ≢ After n) → before_of c m ≡ Some q
      by_place (inl same) _ =
          let found : ◌≡◌ {A = Option ℕ} (Some n) (Some m) = cc in
          second.back m found ∙ ap Some (sym same)
      by_place (inr other) (inl same) =
          let found : next_of a p ≡ Some m = sym first.after ∙ sym (second.others (After n) (λ e. apart (sym e))) ∙
          ap (next_of c) (sym same) ∙ h in
          let fresh : ◌≢◌ {A = Option ℕ} (Some n) (Some m) = λ e. loose p (found ∙ sym e) in
          second.backs m fresh ∙ first.back m found ∙ ap Some (sym same)
      by_place (inr other) (inr further) =
          let found : next_of a q ≡ Some m = sym (first.others q further) ∙ sym (second.others q other) ∙ h in
          let fresh : ◌≢◌ {A = Option ℕ} (Some n) (Some m) = λ e. loose q (found ∙ sym e) in
          let unmoved : next_of a p ≢ Some m = λ e. other (one_before a q p m agrees found e) in
          second.backs m fresh ∙ first.backs m unmoved ∙ agrees q m found

  pub Inserts-joins : (a b c : Pool T) (n : ℕ) (p : Place) → p ≢ After n → Mutual a → IsLoose a n →
      Joins a b (After n) (next_of a p) → Joins b c p (Some n) → Inserts a c n p
  Inserts-joins a b c n p apart agrees loose first second =
      record {
        agrees = Mutual-attach a b c n p apart agrees loose first second;
        after = second.after;
        behind = second.others (After n) (λ e. apart (sym e)) ∙ first.after;
        others = λ q other further. second.others q other ∙ first.others q further;
        slots = λ k. second.slots k ∙ first.slots k;
        fronts = second.fronts ∙ first.fronts;
        nodes = second.nodes ∙ first.nodes;
        capacity = second.capacity ∙ first.capacity;
      }

  module _ (a b c : Pool T) (n : ℕ) (p : Place) (agrees : Mutual a) (follows : next_of a p ≡ Some n)
      (apart : p ≢ After n) (first : SetsNext a b (After n) None) (second : Joins b c p (next_of a (After n))) where
    -- where a node follows a place after the writes, that place led there before, or is p
    cut : (q : Place) (m : ℕ) → next_of c q ≡ Some m →
        ((q ≡ p) × (next_of a (After n) ≡ Some m)) ⊎ ((q ≢ p) × (q ≢ After n) × (next_of a q ≡ Some m))
    cut q m h = by_place (cases_place q p) (cases_place q (After n))
      where
        by_place : (q ≡ p) ⊎ (q ≢ p) → (q ≡ After n) ⊎ (q ≢ After n) →
            ((q ≡ p) × (next_of a (After n) ≡ Some m)) ⊎ ((q ≢ p) × (q ≢ After n) × (next_of a q ≡ Some m))
        by_place (inl same) _ = inl (same, sym second.after ∙ ap (next_of c) (sym same) ∙ h)
        by_place (inr other) (inl same) =
            let none : next_of c q ≡ None = second.others q other ∙ ap (next_of b) same ∙ first.after in
            absurd cc
        by_place (inr other) (inr further) =
            inr (other, further, sym (first.others q further) ∙ sym (second.others q other) ∙ h)

    Mutual-detach : Mutual c
    Mutual-detach q m h =
        elim (cut q m h) [
          | inl e ↦ second.back m e.1 ∙ ap Some (sym e.0)
          | inr e ↦ (let unmoved : next_of a (After n) ≢ Some m = λ f. e.1 (one_before a q (After n) m agrees e.2 f) in
              second.backs m unmoved ∙ first.before m ∙ agrees q m e.2)
        ]

    loose-detach : IsLoose c n
    loose-detach q h =
        elim (cut q n h) [
          | inl e ↦ apart (one_before a p (After n) n agrees follows e.1)
          | inr e ↦ e.0 (one_before a q p n agrees e.2 follows)
        ]

    pub Removes-joins : Removes a c n
    Removes-joins =
        record {
          agrees = Mutual-detach;
          loose = loose-detach;
          place = p;
          was = follows;
          after = second.after;
          others = λ q other further. second.others q other ∙ first.others q further;
          slots = λ k. second.slots k ∙ first.slots k;
          fronts = second.fronts ∙ first.fronts;
          nodes = second.nodes ∙ first.nodes;
        }

  -- a node that the pool has not yet is loose
  pub loose_past : (p : Pool T) → Mutual p → IsLoose p (length p.nodes.items)
  loose_past p agrees q e = absurd (omega (arith, before_within p _ q (agrees q _ e)))

  pub Mutual-append : (p r : Pool T) → Mutual p → Appends p r → Mutual r
  Mutual-append p r agrees more q m e =
      let said = agrees q m (sym (more.next q) ∙ e) in
      more.before m (λ f. omega (arith, before_within p m q said)) ∙ said

  pub Mutual-refill : (p r : Pool T) (n : ℕ) (slot : Option T) → Mutual p → Refills p r n slot → Mutual r
  Mutual-refill p r n slot agrees fill q m e = fill.before m ∙ agrees q m (sym (fill.next q) ∙ e)

  pub loose_append : (p r : Pool T) (n : ℕ) → Mutual p → Appends p r → n ≡ length p.nodes.items → IsLoose r n
  loose_append p r n agrees more number q e = loose_past p agrees q (sym (more.next q) ∙ e ∙ ap Some number)
