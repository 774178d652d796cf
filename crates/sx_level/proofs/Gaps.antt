-- A level without assets shows a cut while a surplus is left; and where none is left, the flow fits the heights.
use Rattle.std.proofs.Common.{◌≡◌, ◌≢◌, ℕ, ◌+◌, ◌<◌, ◌≤◌, Bool, true, false, not, List}
use Rattle.std.proofs.Common.{refl, sym, ap, ◌∙◌, inl, inr, arith}
use Rattle.std.specs.Prelude.{◌==◌, ◌↔◌, IsTrue, if◌then◌else◌, slice_index}
use Rattle.std.proofs.lemmas.Bool.{cases_eq, cases_lt, and_parts, not-true, both_ways}
use Rattle.sx_dual.specs.Circulation.{sold, bought}
use Rattle.sx_dual.specs.Cuts.{IsCut, is_in, goes_in, goes_out, sum_in, sum_out}
use Rattle.sx_dual.specs.Fit.{Fits}
use Rattle.sx_dual.specs.Sums.{between, sum_below}
use Rattle.sx_dual.specs.Tables.{BoundsTable, low_of, high_of, potential_of}
use Rattle.sx_dual.proofs.SumLaws.{pair_sum-same, sum_below-add, sum_below-same, sum_below-swap}
use Rattle.sx_net.specs.declared.arc.Arc.{Arc}
use Rattle.sx_level.specs.Levels.{IsLevel}
use Rattle.sx_level.specs.Shape.{surplus_of, shortage_of, total_surplus, traded}
use Rattle.sx_level.proofs.Crossing.{set_matched, sum_inside}
use Rattle.sx_level.proofs.Heights.{above_0, below_0}
use Rattle.sx_level.proofs.Sums.{sum_of_none, term_le}

chosen_same : (c : Bool) (x z : ℕ) → (c ≡ true → x ≡ z) → (if c then x else 0) ≡ (if c then z else 0)
chosen_same true x z same = same refl
chosen_same false x z same = refl

all_chosen : (c : Bool) (x : ℕ) → (c ≡ false → x ≡ 0) → (if c then x else 0) ≡ x
all_chosen true x none = refl
all_chosen false x none = sym (none refl)

none_chosen : (c : Bool) (x : ℕ) → (c ≡ true → x ≡ 0) → (if c then x else 0) ≡ 0
none_chosen true x none = none refl
none_chosen false x none = refl

module _ (bounds : BoundsTable) (arcs : List Arc) (heights : List ℕ) (level most set gap : ℕ)
    (is : IsLevel bounds arcs heights level most) (below : gap < level)
    (bare : (a : ℕ) → a < bounds.assets → slice_index heights a ≢ gap)
    (above : (a : ℕ) → a < bounds.assets → IsTrue (is_in set a) ↔ (gap < slice_index heights a)) where
  low_down : (a : ℕ) → a < bounds.assets → is_in set a ≡ false → slice_index heights a < gap
  low_down a lt outside =
      elim (cases_lt gap (slice_index heights a)) [
        | inl higher ↦ absurd (both_ways (is_in set a) outside ((above a lt).1 higher))
        | inr lower ↦ let apart = bare a lt in omega arith
      ]

  -- pairs into the set lose, and pairs out of it gain
  ins : sum_in bounds.assets (traded bounds arcs) set ≡ sum_in bounds.assets (low_of bounds) set
  ins =
      pair_sum-same bounds.assets (λ s b. if goes_in set s b then traded bounds arcs s b else 0)
      (λ s b. if goes_in set s b then low_of bounds s b else 0)
      (λ s b s_lt b_lt other. chosen_same (goes_in set s b) (traded bounds arcs s b) (low_of bounds s b) (λ yes.
      let parts = and_parts (not (is_in set s)) (is_in set b) yes in
      let down = low_down s s_lt (not-true (is_in set s) parts.0) in
      let up = (above b b_lt).0 parts.1 in
      (is.tight s b s_lt b_lt other).losing (below_0 (potential_of heights) s b (omega arith))))

  outs : sum_out bounds.assets (traded bounds arcs) set ≡ sum_out bounds.assets (high_of bounds) set
  outs =
      pair_sum-same bounds.assets (λ s b. if goes_out set s b then traded bounds arcs s b else 0)
      (λ s b. if goes_out set s b then high_of bounds s b else 0)
      (λ s b s_lt b_lt other. chosen_same (goes_out set s b) (traded bounds arcs s b) (high_of bounds s b) (λ yes.
      let parts = and_parts (is_in set s) (not (is_in set b)) yes in
      let down = low_down b b_lt (not-true (is_in set b) parts.1) in
      let up = (above s s_lt).0 parts.0 in
      (is.tight s b s_lt b_lt other).gaining (above_0 (potential_of heights) s b (omega arith))))

  all_inside : sum_inside bounds.assets set (surplus_of bounds.assets arcs) ≡ total_surplus bounds.assets arcs
  all_inside =
      let n = bounds.assets in
      sum_below-same n (λ a. if is_in set a then surplus_of n arcs a else 0) (λ a. surplus_of n arcs a) (λ a lt.
      all_chosen (is_in set a) (surplus_of n arcs a) (λ outside.
      elim (cases_eq (surplus_of n arcs a) 0) [
        | inl none ↦ none
        | inr some ↦
            let down = low_down a lt outside in
            let up = is.surplus a lt (omega arith) in
            absurd (omega arith)
      ]))

  none_inside : sum_inside bounds.assets set (shortage_of bounds.assets arcs) ≡ 0
  none_inside =
      let n = bounds.assets in
      sum_of_none n (λ a. if is_in set a then shortage_of n arcs a else 0) (λ a lt.
      none_chosen (is_in set a) (shortage_of n arcs a) (λ inside.
      elim (cases_eq (shortage_of n arcs a) 0) [
        | inl none ↦ none
        | inr some ↦
            let up = (above a lt).0 inside in
            let down = is.shortage a lt (omega arith) in
            absurd (omega arith)
      ]))

  pub gap_is_cut : 0 < total_surplus bounds.assets arcs → IsCut bounds.assets (low_of bounds) (high_of bounds) set
  gap_is_cut some =
      omega (arith, set_matched bounds arcs set is.matched, ins, outs, all_inside, none_inside, some)

-- ---- no surplus is left

module _ (bounds : BoundsTable) (arcs : List Arc) (heights : List ℕ) (level most : ℕ)
    (is : IsLevel bounds arcs heights level most) (none : total_surplus bounds.assets arcs ≤ 0) where
  no_surplus : (a : ℕ) → a < bounds.assets → surplus_of bounds.assets arcs a ≡ 0
  no_surplus a lt = omega (arith, term_le bounds.assets a (λ v. surplus_of bounds.assets arcs v) lt, none)

  no_shortage_in_all : sum_below bounds.assets (λ a. shortage_of bounds.assets arcs a) ≡ 0
  no_shortage_in_all =
      let n = bounds.assets in
      let y = traded bounds arcs in
      let each = sum_below-same n (λ a. bought n y a + shortage_of n arcs a) (λ a. sold n y a + surplus_of n arcs a)
      is.matched in
      omega (
        arith,
        each,
        none,
        sum_below-add n (λ a. bought n y a) (λ a. shortage_of n arcs a),
        sum_below-add n (λ a. sold n y a) (λ a. surplus_of n arcs a),
        sum_below-swap n n (λ s b. between y s b),
      )

  no_shortage : (a : ℕ) → a < bounds.assets → shortage_of bounds.assets arcs a ≡ 0
  no_shortage a lt =
      omega (arith, term_le bounds.assets a (λ v. shortage_of bounds.assets arcs v) lt, no_shortage_in_all)

  pub settled_fits : Fits bounds.assets (low_of bounds) (high_of bounds) (traded bounds arcs) (potential_of heights)
  settled_fits = record {
    circulation = record {
      within = λ s b s_lt b_lt other.
          let pair = is.shaped.pairs s b s_lt b_lt in
          record { at_least = omega arith; at_most = omega (arith, pair.room) };
      balanced = λ a lt. omega (arith, is.matched a lt, no_surplus a lt, no_shortage a lt);
    };
    tight = is.tight;
  }

-- a flow that trades the same fits too
pub same_fits : (n : ℕ) (low high y z : ℕ → ℕ → ℕ) (potential : ℕ → ℕ) →
    ((s b : ℕ) → s < n → b < n → z s b ≡ y s b) → Fits n low high y potential → Fits n low high z potential
same_fits n low high y z potential same fits = record {
  circulation = record {
    within = λ s b s_lt b_lt other.
        let at = fits.circulation.within s b s_lt b_lt other in
        let is = same s b s_lt b_lt in
        record { at_least = omega (arith, is, at.at_least); at_most = omega (arith, is, at.at_most) };
    balanced = λ v lt.
        let sells = sum_below-same n (λ b. between z v b) (λ b. between y v b)
        (λ b b_lt. ap (λ x. if v == b then 0 else x) (same v b lt b_lt)) in
        let buys = sum_below-same n (λ s. between z s v) (λ s. between y s v)
        (λ s s_lt. ap (λ x. if s == v then 0 else x) (same s v s_lt lt)) in
        sells ∙ fits.circulation.balanced v lt ∙ sym buys;
  };
  tight = λ s b s_lt b_lt other.
      let at = fits.tight s b s_lt b_lt other in
      let is = same s b s_lt b_lt in
      record { gaining = λ gains. is ∙ at.gaining gains; losing = λ loses. is ∙ at.losing loses };
}
