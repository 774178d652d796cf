-- Sums to which fills are added one by one.
use Rattle.std.proofs.Common.{◌≡◌, ◌≢◌, ℕ, ◌+◌, ◌^◌, ◌<◌, cond, eqb, List, length, get_or, set, take, sum_by, Some}
use Rattle.std.proofs.Common.{refl, sym, ap, ◌∙◌, inl, inr, arith}
use Rattle.std.specs.Prelude.{All, slice_get}
use Rattle.std.proofs.lemmas.Bool.{cases_Bool, eq-eqb, eqb-false, eqb-true}
use Rattle.std.proofs.lemmas.Grind.{get_or-set_at}
use Rattle.std.proofs.lemmas.List.{get_or-set_other, take_more}
use Rattle.std.proofs.lemmas.List.Sums.{sum_by-take-le, sum_by_push}
use Rattle.sx_apply.specs.FillSums.{of_offer}
use Rattle.sx_ledger.specs.declared.fill.Fill.{Fill}
use Rattle.sx_ledger.specs.declared.offer.Offer.{Offer}

pub sum_more : {X : Type 0} (part : X → ℕ) (xs : List X) (k : ℕ) (d : X) → k < length xs
    → sum_by part (take (k + 1) xs) ≡ sum_by part (take k xs) + part (get_or xs k d)
sum_more part xs k d lt = ap (sum_by part) (take_more xs k d lt) ∙ sum_by_push part (take k xs) (get_or xs k d)

-- the asset of an offer is in range where that of each offer is
pub in_room : (asset_of : Offer → ℕ) (offers : List Offer) (n at : ℕ) (o : Offer) (asset : ℕ) → at < length offers
    → All (λ x. asset_of x < n) offers → o ≡ get_or offers at o → asset ≡ asset_of o → asset < n
in_room asset_of offers n at o asset lt all is same =
    let here : asset_of (get_or offers at o) < n = all at o lt in
    let read : asset_of o ≡ asset_of (get_or offers at o) = ap asset_of is in
    omega arith

module _ (asset_of : Offer → ℕ) (units : Fill → ℕ) (offers : List Offer) where
  abbrev part_of : ℕ → Fill → ℕ
  part_of asset fill = of_offer (λ o. cond (eqb (asset_of o) asset) (units fill) 0) (slice_get offers fill.place)

  module _ (old sums : List ℕ) (fills : List Fill) (k : ℕ) (d : Fill) (o : Offer) (asset : ℕ) (lt : k < length fills)
      (there : slice_get offers (get_or fills k d).place ≡ Some o) (is : asset ≡ asset_of o)
      (in_range : asset < length old)
      (so_far : (a : ℕ) → a < length old → get_or sums a 0 ≡ get_or old a 0 + sum_by (part_of a) (take k fills)) where
    abbrev fill : Fill
    fill = get_or fills k d

    part_is : (a : ℕ) → part_of a fill ≡ cond (eqb asset a) (units fill) 0
    part_is a =
        ap (of_offer (λ o. cond (eqb (asset_of o) a) (units fill) 0)) there
        ∙ ap (λ (n : ℕ). cond (eqb n a) (units fill) 0) (sym is)

    part_here : part_of asset fill ≡ units fill
    part_here = part_is asset ∙ rw (eq-eqb asset asset refl) refl

    pub fits_too : ((a : ℕ) → a < length old → get_or old a 0 + sum_by (part_of a) fills < 2 ^ 64)
        → get_or sums asset 0 + units fill < 2 ^ 64
    fits_too fits =
        let most = fits asset in_range in
        let now = so_far asset in_range in
        let more = sum_more (part_of asset) fills k d lt in
        let within = sum_by-take-le (part_of asset) fills (k + 1) in
        omega (arith, part_here)

    pub one_added : length sums ≡ length old → (a : ℕ) → a < length old
        → get_or (set sums asset (get_or sums asset 0 + units fill)) a 0
        ≡ get_or old a 0 + sum_by (part_of a) (take (k + 1) fills)
    one_added long a below =
        let now = so_far a below in
        let more = sum_more (part_of a) fills k d lt in
        elim (cases_Bool (eqb asset a)) [
          | inl here ↦
              let same : a ≡ asset = sym (eqb-true asset a here) in
              let part : part_of a fill ≡ units fill = part_is a ∙ rw here refl in
              let set_is = get_or-set_at sums asset a (get_or sums asset 0 + units fill) 0 same (omega (arith, long)) in
              let read : get_or sums asset 0 ≡ get_or sums a 0 = ap (λ (n : ℕ). get_or sums n 0) (sym same) in
              omega arith
          | inr other ↦
              let apart : a ≢ asset = λ e. eqb-false asset a other (sym e) in
              let part : part_of a fill ≡ 0 = part_is a ∙ rw other refl in
              let set_is = get_or-set_other sums asset a (get_or sums asset 0 + units fill) 0 apart in
              omega arith
        ]
