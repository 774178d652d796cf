-- Where an asset is bought more than sold, and no asset to which arcs lead from it is sold more than bought, these
-- assets are a cut.
use Rattle.std.proofs.Common.{◌≡◌, ℕ, ◌+◌, ◌<◌, ◌≤◌, Bool, true, false, not, ◌&&◌, List, []}
use Rattle.std.proofs.Common.{length}
use Rattle.std.proofs.Common.{refl, sym, ap, ◌∙◌, inl, inr, arith}
use Rattle.std.specs.Prelude.{if◌then◌else◌, IsTrue, ◌↔◌}
use Rattle.std.proofs.lemmas.Bool.{cases_eq, cases_lt, and_parts, not-true, both_ways}
use Rattle.std.proofs.lemmas.Nat.{mul-add-lt}
use Rattle.sx_dual.specs.Circulation.{IsBalanced, sold, bought}
use Rattle.sx_dual.specs.Cuts.{IsCut, is_in, goes_in, goes_out, sum_in, sum_out}
use Rattle.sx_dual.specs.Sums.{between, sum_below}
use Rattle.sx_dual.specs.Tables.{BoundsTable, low_of, high_of}
use Rattle.sx_dual.proofs.SumLaws.{between-other, between-self, pair_sum-same, sum_below-add, sum_below-same}
use Rattle.sx_dual.proofs.SumLaws.{sum_below-swap}
use Rattle.sx_net.specs.declared.arc.Arc.{Arc}
use Rattle.sx_net.specs.Arcs.{tail_of, head_of, left_of, is_allowed}
use Rattle.sx_net.specs.Paths.{Reaches}
use Rattle.sx_net.proofs.Leading.{reaches_next}
use Rattle.sx_feas.specs.Shape.{pair_arc, traded, sold_now, bought_now, IsShaped}
use Rattle.sx_feas.proofs.Grids.{sum_of_none, sum_below-lt}

-- ---- what is sold and bought inside a set, and what crosses its border

both_sides : (s b : Bool) (x : ℕ) →
    (if s then x else 0) + (if not s && b then x else 0) ≡ (if b then x else 0) + (if s && not b then x else 0)
both_sides true true x = refl
both_sides true false x = omega arith
both_sides false true x = omega arith
both_sides false false x = refl

nothing : (c : Bool) (x : ℕ) → x ≡ 0 → (if c then x else 0) ≡ 0
nothing true x none = none
nothing false x none = refl

chosen_sum : (c : Bool) (n : ℕ) (f : ℕ → ℕ) → (if c then sum_below n f else 0) ≡ sum_below n (λ b. if c then f b else 0)
chosen_sum true n f = refl
chosen_sum false n f = sym (sum_of_none n (λ b. 0) (λ b lt. refl))

sums_add : (n : ℕ) (f g : ℕ → ℕ → ℕ) → sum_below n (λ s. sum_below n (λ b. f s b + g s b))
    ≡ sum_below n (λ s. sum_below n (λ b. f s b)) + sum_below n (λ s. sum_below n (λ b. g s b))
sums_add n f g =
    sum_below-same n (λ s. sum_below n (λ b. f s b + g s b))
    (λ s. sum_below n (λ b. f s b) + sum_below n (λ b. g s b))
    (λ s lt. sum_below-add n (λ b. f s b) (λ b. g s b))
    ∙ sum_below-add n (λ s. sum_below n (λ b. f s b)) (λ s. sum_below n (λ b. g s b))

sums_same : (n : ℕ) (f g : ℕ → ℕ → ℕ) → ((s b : ℕ) → f s b ≡ g s b) →
    sum_below n (λ s. sum_below n (λ b. f s b)) ≡ sum_below n (λ s. sum_below n (λ b. g s b))
sums_same n f g same =
    sum_below-same n (λ s. sum_below n (λ b. f s b)) (λ s. sum_below n (λ b. g s b))
    (λ s lt. sum_below-same n (λ b. f s b) (λ b. g s b) (λ b b_lt. same s b))

module _ (n set : ℕ) (y : ℕ → ℕ → ℕ) where
  abbrev sells : ℕ → ℕ → ℕ
  sells s b = if is_in set s then between y s b else 0

  abbrev buys : ℕ → ℕ → ℕ
  buys s b = if is_in set b then between y s b else 0

  abbrev enters : ℕ → ℕ → ℕ
  enters s b = between (λ s b. if goes_in set s b then y s b else 0) s b

  abbrev leaves : ℕ → ℕ → ℕ
  leaves s b = between (λ s b. if goes_out set s b then y s b else 0) s b

  at_pair : (s b : ℕ) → sells s b + enters s b ≡ buys s b + leaves s b
  at_pair s b =
      elim (cases_eq s b) [
        | inl same ↦
            let none = between-self y s b same in
            let mine : sells s b ≡ 0 = nothing (is_in set s) (between y s b) none in
            let its : buys s b ≡ 0 = nothing (is_in set b) (between y s b) none in
            omega (
              arith,
              mine,
              its,
              between-self (λ s b. if goes_in set s b then y s b else 0) s b same,
              between-self (λ s b. if goes_out set s b then y s b else 0) s b same,
            )
        | inr other ↦
            let is = between-other y s b other in
            let mine : sells s b ≡ (if is_in set s then y s b else 0) = ap (λ x. if is_in set s then x else 0) is in
            let its : buys s b ≡ (if is_in set b then y s b else 0) = ap (λ x. if is_in set b then x else 0) is in
            omega (
              arith,
              mine,
              its,
              between-other (λ s b. if goes_in set s b then y s b else 0) s b other,
              between-other (λ s b. if goes_out set s b then y s b else 0) s b other,
              both_sides (is_in set s) (is_in set b) (y s b),
            )
      ]

  sold_inside : sum_below n (λ s. if is_in set s then sold n y s else 0)
      ≡ sum_below n (λ s. sum_below n (λ b. sells s b))
  sold_inside =
      sum_below-same n (λ s. if is_in set s then sold n y s else 0) (λ s. sum_below n (λ b. sells s b))
      (λ s lt. chosen_sum (is_in set s) n (λ b. between y s b))

  bought_inside : sum_below n (λ b. if is_in set b then bought n y b else 0)
      ≡ sum_below n (λ s. sum_below n (λ b. buys s b))
  bought_inside =
      sum_below-same n (λ b. if is_in set b then bought n y b else 0) (λ b. sum_below n (λ s. buys s b))
      (λ b lt. chosen_sum (is_in set b) n (λ s. between y s b))
      ∙ sym (sum_below-swap n n (λ s b. buys s b))

  pub crossing : sum_below n (λ s. if is_in set s then sold n y s else 0) + sum_in n y set
      ≡ sum_below n (λ b. if is_in set b then bought n y b else 0) + sum_out n y set
  crossing =
      omega (
        arith,
        sold_inside,
        bought_inside,
        sums_add n sells enters,
        sums_add n buys leaves,
        sums_same n (λ s b. sells s b + enters s b) (λ s b. buys s b + leaves s b) at_pair,
      )

-- ---- all assets

-- where no asset is bought more than sold, each one balances
pub all_balanced : (n : ℕ) (y : ℕ → ℕ → ℕ) → ((v : ℕ) → v < n → bought n y v ≤ sold n y v) → (v : ℕ) → v < n →
    IsBalanced n y v
all_balanced n y covered v lt =
    elim (cases_lt (bought n y v) (sold n y v)) [
      | inl less ↦
          let less_in_all = sum_below-lt n (λ k. bought n y k) (λ k. sold n y k) covered v lt less in
          absurd (omega (arith, less_in_all, sum_below-swap n n (λ s b. between y s b)))
      | inr more ↦ omega (arith, covered v lt, more)
    ]

-- ---- the cut

chosen_same : (c : Bool) (x z : ℕ) → (c ≡ true → x ≡ z) → (if c then x else 0) ≡ (if c then z else 0)
chosen_same true x z same = same refl
chosen_same false x z same = refl

chosen_le : (c : Bool) (x z : ℕ) → (c ≡ true → x ≤ z) → (if c then x else 0) ≤ (if c then z else 0)
chosen_le true x z le = le refl
chosen_le false x z le = omega arith

chosen_lt : (c : Bool) (x z : ℕ) → c ≡ true → x < z → (if c then x else 0) < (if c then z else 0)
chosen_lt true x z is lt = lt
chosen_lt false x z is lt = absurd (both_ways false refl is)

module _ (bounds : BoundsTable) (arcs : List Arc) (shaped : IsShaped bounds arcs) (set from : ℕ)
    (reach : (v : ℕ) → v < bounds.assets → IsTrue (is_in set v) ↔ Reaches arcs 1 from v) where
  pair_within : (s b : ℕ) → s < bounds.assets → b < bounds.assets → pair_arc bounds.assets s b + 1 < length arcs
  pair_within s b s_lt b_lt =
      omega (arith, shaped.count, mul-add-lt s bounds.assets b bounds.assets s_lt b_lt)

  -- nothing is left of an arc from the set to an asset outside
  border : (a v w : ℕ) → a < length arcs → 1 ≤ left_of arcs a → IsTrue (is_allowed arcs a) → tail_of arcs a ≡ v →
      head_of arcs a ≡ w → v < bounds.assets → w < bounds.assets → is_in set v ≡ true → is_in set w ≡ true
  border a v w within some allowed tail head v_lt w_lt inside =
      let there : Reaches arcs 1 from v = (reach v v_lt).0 inside in
      let at_tail : Reaches arcs 1 from (tail_of arcs a) = rw tail there in
      let next = reaches_next arcs 1 from _ a at_tail
      (record { within = within; allowed = allowed; enough = some }) refl in
      (reach w w_lt).1 (rw head at next)

  out_full : (s b : ℕ) → s < bounds.assets → b < bounds.assets → is_in set s ≡ true → is_in set b ≡ false →
      left_of arcs (pair_arc bounds.assets s b) ≡ 0
  out_full s b s_lt b_lt inside outside =
      elim (cases_lt 0 (left_of arcs (pair_arc bounds.assets s b))) [
        | inl some ↦
            let pair = shaped.pairs s b s_lt b_lt in
            let within = pair_within s b s_lt b_lt in
            let wrong = border (pair_arc bounds.assets s b) s b (omega arith) (omega arith) pair.allowed pair.tail
            pair.head s_lt b_lt inside in
            absurd (both_ways (is_in set b) outside wrong)
        | inr none ↦ omega arith
      ]

  in_empty : (s b : ℕ) → s < bounds.assets → b < bounds.assets → is_in set s ≡ false → is_in set b ≡ true →
      left_of arcs (pair_arc bounds.assets s b + 1) ≡ 0
  in_empty s b s_lt b_lt outside inside =
      elim (cases_lt 0 (left_of arcs (pair_arc bounds.assets s b + 1))) [
        | inl some ↦
            let pair = shaped.pairs s b s_lt b_lt in
            let within = pair_within s b s_lt b_lt in
            let wrong = border (pair_arc bounds.assets s b + 1) b s within (omega arith) pair.back_allowed
            pair.back_tail pair.back_head b_lt s_lt inside in
            absurd (both_ways (is_in set s) outside wrong)
        | inr none ↦ omega arith
      ]

  ins : sum_in bounds.assets (traded bounds arcs) set ≡ sum_in bounds.assets (low_of bounds) set
  ins =
      pair_sum-same bounds.assets (λ s b. if goes_in set s b then traded bounds arcs s b else 0)
      (λ s b. if goes_in set s b then low_of bounds s b else 0)
      (λ s b s_lt b_lt other. chosen_same (goes_in set s b) (traded bounds arcs s b) (low_of bounds s b) (λ yes.
      let parts = and_parts (not (is_in set s)) (is_in set b) yes in
      omega (arith, in_empty s b s_lt b_lt (not-true (is_in set s) parts.0) parts.1)))

  outs : sum_out bounds.assets (traded bounds arcs) set ≡ sum_out bounds.assets (high_of bounds) set
  outs =
      pair_sum-same bounds.assets (λ s b. if goes_out set s b then traded bounds arcs s b else 0)
      (λ s b. if goes_out set s b then high_of bounds s b else 0)
      (λ s b s_lt b_lt other. chosen_same (goes_out set s b) (traded bounds arcs s b) (high_of bounds s b) (λ yes.
      let parts = and_parts (is_in set s) (not (is_in set b)) yes in
      let pair = shaped.pairs s b s_lt b_lt in
      omega (arith, pair.room, out_full s b s_lt b_lt parts.0 (not-true (is_in set b) parts.1))))

  pub reached_is_cut : from < bounds.assets → Reaches arcs 1 from from →
      sold_now bounds arcs from < bought_now bounds arcs from →
      ((v : ℕ) → v < bounds.assets → Reaches arcs 1 from v → sold_now bounds arcs v ≤ bought_now bounds arcs v) →
      IsCut bounds.assets (low_of bounds) (high_of bounds) set
  reached_is_cut from_lt itself more ahead =
      let inside : is_in set from ≡ true = (reach from from_lt).1 itself in
      let less = sum_below-lt bounds.assets (λ v. if is_in set v then sold_now bounds arcs v else 0)
      (λ v. if is_in set v then bought_now bounds arcs v else 0)
      (λ v lt. chosen_le (is_in set v) (sold_now bounds arcs v) (bought_now bounds arcs v)
      (λ yes. ahead v lt ((reach v lt).0 yes)))
      from from_lt
      (chosen_lt (is_in set from) (sold_now bounds arcs from) (bought_now bounds arcs from) inside more) in
      omega (arith, less, crossing bounds.assets set (traded bounds arcs), ins, outs)

pub reaches_itself : (arcs : List Arc) (v : ℕ) → Reaches arcs 1 v v
reaches_itself arcs v = record { path = []; leads = refl; passable = λ k d within. absurd (omega arith) }
