-- What is sold and bought inside a set of assets, and what crosses its border.
use Rattle.std.proofs.Common.{◌≡◌, ℕ, ◌+◌, Bool, true, false, not, ◌&&◌, List}
use Rattle.std.proofs.Common.{refl, sym, ap, ◌∙◌, inl, inr, arith}
use Rattle.std.specs.Prelude.{if◌then◌else◌}
use Rattle.std.proofs.lemmas.Bool.{cases_eq}
use Rattle.sx_dual.specs.Circulation.{sold, bought}
use Rattle.sx_dual.specs.Cuts.{is_in, goes_in, goes_out, sum_in, sum_out}
use Rattle.sx_dual.specs.Sums.{between, sum_below}
use Rattle.sx_dual.specs.Tables.{BoundsTable}
use Rattle.sx_dual.proofs.SumLaws.{between-other, between-self, sum_below-add, sum_below-same}
use Rattle.sx_dual.proofs.SumLaws.{sum_below-swap}
use Rattle.sx_net.specs.declared.arc.Arc.{Arc}
use Rattle.sx_level.specs.Shape.{traded, surplus_of, shortage_of, AreMatched}
use Rattle.sx_level.proofs.Sums.{sum_of_none}

both_sides : (s b : Bool) (x : ℕ) →
    (if s then x else 0) + (if not s && b then x else 0) ≡ (if b then x else 0) + (if s && not b then x else 0)
both_sides true true x = refl
both_sides true false x = omega arith
both_sides false true x = omega arith
both_sides false false x = refl

nothing : (c : Bool) (x : ℕ) → x ≡ 0 → (if c then x else 0) ≡ 0
nothing true x none = none
nothing false x none = refl

chosen_sum : (c : Bool) (n : ℕ) (f : ℕ → ℕ) → (if c then sum_below n f else 0) ≡ sum_below n (λ b. if c then f b else 0)
chosen_sum true n f = refl
chosen_sum false n f = sym (sum_of_none n (λ b. 0) (λ b lt. refl))

sums_add : (n : ℕ) (f g : ℕ → ℕ → ℕ) → sum_below n (λ s. sum_below n (λ b. f s b + g s b))
    ≡ sum_below n (λ s. sum_below n (λ b. f s b)) + sum_below n (λ s. sum_below n (λ b. g s b))
sums_add n f g =
    sum_below-same n (λ s. sum_below n (λ b. f s b + g s b))
    (λ s. sum_below n (λ b. f s b) + sum_below n (λ b. g s b))
    (λ s lt. sum_below-add n (λ b. f s b) (λ b. g s b))
    ∙ sum_below-add n (λ s. sum_below n (λ b. f s b)) (λ s. sum_below n (λ b. g s b))

sums_same : (n : ℕ) (f g : ℕ → ℕ → ℕ) → ((s b : ℕ) → f s b ≡ g s b) →
    sum_below n (λ s. sum_below n (λ b. f s b)) ≡ sum_below n (λ s. sum_below n (λ b. g s b))
sums_same n f g same =
    sum_below-same n (λ s. sum_below n (λ b. f s b)) (λ s. sum_below n (λ b. g s b))
    (λ s lt. sum_below-same n (λ b. f s b) (λ b. g s b) (λ b b_lt. same s b))

module _ (n set : ℕ) (y : ℕ → ℕ → ℕ) where
  abbrev sells : ℕ → ℕ → ℕ
  sells s b = if is_in set s then between y s b else 0

  abbrev buys : ℕ → ℕ → ℕ
  buys s b = if is_in set b then between y s b else 0

  abbrev enters : ℕ → ℕ → ℕ
  enters s b = between (λ s b. if goes_in set s b then y s b else 0) s b

  abbrev leaves : ℕ → ℕ → ℕ
  leaves s b = between (λ s b. if goes_out set s b then y s b else 0) s b

  at_pair : (s b : ℕ) → sells s b + enters s b ≡ buys s b + leaves s b
  at_pair s b =
      elim (cases_eq s b) [
        | inl same ↦
            let none = between-self y s b same in
            let mine : sells s b ≡ 0 = nothing (is_in set s) (between y s b) none in
            let its : buys s b ≡ 0 = nothing (is_in set b) (between y s b) none in
            omega (
              arith,
              mine,
              its,
              between-self (λ s b. if goes_in set s b then y s b else 0) s b same,
              between-self (λ s b. if goes_out set s b then y s b else 0) s b same,
            )
        | inr other ↦
            let is = between-other y s b other in
            let mine : sells s b ≡ (if is_in set s then y s b else 0) = ap (λ x. if is_in set s then x else 0) is in
            let its : buys s b ≡ (if is_in set b then y s b else 0) = ap (λ x. if is_in set b then x else 0) is in
            omega (
              arith,
              mine,
              its,
              between-other (λ s b. if goes_in set s b then y s b else 0) s b other,
              between-other (λ s b. if goes_out set s b then y s b else 0) s b other,
              both_sides (is_in set s) (is_in set b) (y s b),
            )
      ]

  sold_inside : sum_below n (λ s. if is_in set s then sold n y s else 0)
      ≡ sum_below n (λ s. sum_below n (λ b. sells s b))
  sold_inside =
      sum_below-same n (λ s. if is_in set s then sold n y s else 0) (λ s. sum_below n (λ b. sells s b))
      (λ s lt. chosen_sum (is_in set s) n (λ b. between y s b))

  bought_inside : sum_below n (λ b. if is_in set b then bought n y b else 0)
      ≡ sum_below n (λ s. sum_below n (λ b. buys s b))
  bought_inside =
      sum_below-same n (λ b. if is_in set b then bought n y b else 0) (λ b. sum_below n (λ s. buys s b))
      (λ b lt. chosen_sum (is_in set b) n (λ s. between y s b))
      ∙ sym (sum_below-swap n n (λ s b. buys s b))

  pub crossing : sum_below n (λ s. if is_in set s then sold n y s else 0) + sum_in n y set
      ≡ sum_below n (λ b. if is_in set b then bought n y b else 0) + sum_out n y set
  crossing =
      omega (
        arith,
        sold_inside,
        bought_inside,
        sums_add n sells enters,
        sums_add n buys leaves,
        sums_same n (λ s b. sells s b + enters s b) (λ s b. buys s b + leaves s b) at_pair,
      )

-- ---- surpluses and shortages inside a set

-- an amount at each asset of the set
abbrev pub sum_inside : ℕ → ℕ → (ℕ → ℕ) → ℕ
sum_inside n set f = sum_below n (λ a. if is_in set a then f a else 0)

both_chosen : (c : Bool) (x y z w : ℕ) → x + y ≡ z + w →
    (if c then x else 0) + (if c then y else 0) ≡ (if c then z else 0) + (if c then w else 0)
both_chosen true x y z w same = same
both_chosen false x y z w same = refl

-- in a set of assets what goes in and what is short make up what goes out and what is left over
pub set_matched : (bounds : BoundsTable) (arcs : List Arc) (set : ℕ) → AreMatched bounds arcs →
    sum_in bounds.assets (traded bounds arcs) set + sum_inside bounds.assets set (shortage_of bounds.assets arcs)
    ≡ sum_out bounds.assets (traded bounds arcs) set + sum_inside bounds.assets set (surplus_of bounds.assets arcs)
set_matched bounds arcs set matched =
    let n = bounds.assets in
    let y = traded bounds arcs in
    let each = sum_below-same n
    (λ a. (if is_in set a then bought n y a else 0) + (if is_in set a then shortage_of n arcs a else 0))
    (λ a. (if is_in set a then sold n y a else 0) + (if is_in set a then surplus_of n arcs a else 0))
    (λ a lt. both_chosen (is_in set a) (bought n y a) (shortage_of n arcs a) (sold n y a) (surplus_of n arcs a)
    (matched a lt)) in
    omega (
      arith,
      crossing n set y,
      each,
      sum_below-add n (λ a. if is_in set a then bought n y a else 0)
          (λ a. if is_in set a then shortage_of n arcs a else 0),
      sum_below-add n (λ a. if is_in set a then sold n y a else 0)
          (λ a. if is_in set a then surplus_of n arcs a else 0),
    )
