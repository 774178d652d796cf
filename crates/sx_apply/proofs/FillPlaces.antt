-- What holds of all fills of a list of offers, and what fills have in all, offer by offer.
use Rattle.std.proofs.Common.{◌≡◌, ℕ, suc, ◌+◌, ◌/◌, ◌%◌, ◌<◌, ◌≤◌, Bool, cond, eqb, ltb, ◌&&◌, List, [], ◌∷◌, ◌++◌}
use Rattle.std.proofs.Common.{length, sum_by, Some, refl, sym, ap, ap₂, subst, ◌∙◌, append_assoc, inl, inr, arith}
use Rattle.std.specs.Prelude.{All, slice_get, IfSome}
use Rattle.std.specs.List.{AllByRecursion}
use Rattle.std.proofs.Math.Nat.{zero-div, zero-mod}
use Rattle.std.proofs.lemmas.Bool.{cases_Bool, ltb-false}
use Rattle.std.proofs.lemmas.List.{length_push}
use Rattle.std.proofs.lemmas.List.Elements.{All-from_recursion}
use Rattle.std.proofs.lemmas.List.Sums.{sum_by-cons}
use Rattle.std.proofs.lemmas.Option.{slice_get_within}
use Rattle.sx_apply.specs.FillSums.{given_by, got_by, of_offer, proceeds_by}
use Rattle.sx_fill.specs.AllFills.{all_fills, fill_of}
use Rattle.sx_fill.specs.PairFills.{trading}
use Rattle.sx_ledger.specs.declared.fill.Fill.{Fill}
use Rattle.sx_ledger.specs.declared.offer.Offer.{Offer}
use Rattle.sx_ledger.specs.Bounds.{price_of}
use Rattle.sx_ledger.specs.Fills.{Flow, gets, given, gives, got, value_of}
use Rattle.sx_ledger.specs.Trade.{proceeds}
use Rattle.sx_price.specs.Rounding.{rounded_down, rounded_up}

pub at_front : (front back : List Offer) (o : Offer) → slice_get (front ++ o ∷ back) (length front) ≡ Some o
at_front [] back o = refl
at_front (x ∷ front) back o = at_front front back o

module _ (f : ℕ → Offer → Fill) (whole : List Offer) where
  -- what holds of the fill of each offer holds of all fills
  pub each_fill : (P : Fill → Type 0)
      → ((place : ℕ) (o : Offer) → slice_get whole place ≡ Some o → P (f place o))
      → (front back : List Offer) → whole ≡ front ++ back → AllByRecursion P (trading f (length front) back)
  each_fill P holds front [] e = tt
  each_fill P holds front (o ∷ back) e =
      let here : P (f (length front) o) =
      holds (length front) o (ap (λ (xs : List Offer). slice_get xs (length front)) e ∙ at_front front back o) in
      let next = each_fill P holds (front ++ o ∷ []) back (e ∙ sym (append_assoc front (o ∷ []) back)) in
      let rest : AllByRecursion P (trading f (suc (length front)) back) =
      subst (λ (n : ℕ). AllByRecursion P (trading f n back))
      (let s : length (front ++ o ∷ []) ≡ suc (length front) = omega (arith, length_push front o) in s) next in
      elim (cases_Bool (ltb 0 (f (length front) o).value))
      [ inl trades ↦ rw trades (here, rest) | inr none ↦ rw none rest ]

  -- a sum over the fills is one over the offers
  module _ (placed : (place : ℕ) (o : Offer) → (f place o).place ≡ place) (g : Offer → Fill → ℕ) (units : Offer → ℕ)
      (same : (place : ℕ) (o : Offer) → g o (f place o) ≡ units o)
      (none : (place : ℕ) (o : Offer) → (f place o).value ≡ 0 → units o ≡ 0) where
    abbrev part : Fill → ℕ
    part fill = of_offer (λ o. g o fill) (slice_get whole fill.place)

    pub sum_is : (front back : List Offer) → whole ≡ front ++ back
        → sum_by part (trading f (length front) back) ≡ sum_by units back
    sum_is front [] e = refl
    sum_is front (o ∷ back) e =
        let fill = f (length front) o in
        let there : slice_get whole fill.place ≡ Some o =
        ap (slice_get whole) (placed (length front) o) ∙ ap (λ (xs : List Offer). slice_get xs (length front)) e
        ∙ at_front front back o in
        let here : part fill ≡ units o = ap (of_offer (λ o. g o fill)) there ∙ same (length front) o in
        let next = sum_is (front ++ o ∷ []) back (e ∙ sym (append_assoc front (o ∷ []) back)) in
        let rest : sum_by part (trading f (suc (length front)) back) ≡ sum_by units back =
        ap (λ (n : ℕ). sum_by part (trading f n back))
        (let s : suc (length front) ≡ length (front ++ o ∷ []) = omega (arith, length_push front o) in s) ∙ next in
        elim (cases_Bool (ltb 0 fill.value)) [
          | inl trades ↦
              rw trades
              (sum_by-cons part fill (trading f (suc (length front)) back) ∙ ap₂ ◌+◌ here rest ∙
              sym (sum_by-cons units o back))
          | inr stays ↦
              let nothing : units o ≡ 0 = none (length front) o (omega (arith, ltb-false 0 fill.value stays)) in
              rw stays (rest ∙ (let e : sum_by units back ≡ units o + sum_by units back = omega arith in e) ∙
              sym (sum_by-cons units o back))
        ]

-- ---- what all fills give and get

up_of_none : (price : ℕ) → rounded_up 0 price ≡ 0
up_of_none price =
    let q : 0 / price ≡ 0 = zero-div price in let r : 0 % price ≡ 0 = zero-mod price in rw (q, r) refl

down_of_none : (price : ℕ) → rounded_down 0 price ≡ 0
down_of_none price = zero-div price

nothing_if : (test : Bool) (n : ℕ) → n ≡ 0 → cond test n 0 ≡ 0
nothing_if test n e = elim (cases_Bool test) [ inl holds ↦ rw holds e | inr fails ↦ rw fails refl ]

module _ (prices : List ℕ) (flow : Flow) (offers : List Offer) where
  abbrev fills : List Fill
  fills = all_fills prices flow offers

  pub no_gives : (o : Offer) → value_of prices flow offers o ≡ 0 → gives prices flow offers o ≡ 0
  no_gives o e = ap (λ (v : ℕ). rounded_up v (price_of prices o.sell)) e ∙ up_of_none (price_of prices o.sell)

  pub no_gets : (o : Offer) → value_of prices flow offers o ≡ 0 → gets prices flow offers o ≡ 0
  no_gets o e = ap (λ (v : ℕ). rounded_down v (price_of prices o.buy)) e ∙ down_of_none (price_of prices o.buy)

  pub given_is : (asset : ℕ) → given_by offers fills asset ≡ given prices flow offers asset
  given_is asset =
      sum_is (fill_of prices flow offers) offers (λ p o. refl) (λ o fill. cond (eqb o.sell asset) fill.gives 0)
      (λ o. cond (eqb o.sell asset) (gives prices flow offers o) 0) (λ p o. refl)
      (λ p o e. nothing_if (eqb o.sell asset) (gives prices flow offers o) (no_gives o e)) [] offers refl

  pub got_is : (asset : ℕ) → got_by offers fills asset ≡ got prices flow offers asset
  got_is asset =
      sum_is (fill_of prices flow offers) offers (λ p o. refl) (λ o fill. cond (eqb o.buy asset) fill.gets 0)
      (λ o. cond (eqb o.buy asset) (gets prices flow offers o) 0) (λ p o. refl)
      (λ p o e. nothing_if (eqb o.buy asset) (gets prices flow offers o) (no_gets o e)) [] offers refl

  pub proceeds_is : (account asset : ℕ)
      → proceeds_by offers fills account asset ≡ proceeds prices flow offers account asset
  proceeds_is account asset =
      sum_is (fill_of prices flow offers) offers (λ p o. refl)
      (λ o fill. cond (eqb o.account.0 account && eqb o.buy asset) fill.gets 0)
      (λ o. cond (eqb o.account.0 account && eqb o.buy asset) (gets prices flow offers o) 0) (λ p o. refl)
      (λ p o e. nothing_if (eqb o.account.0 account && eqb o.buy asset) (gets prices flow offers o) (no_gets o e))
      [] offers refl

  -- each fill stands at an offer
  pub places_are : All (λ fill. fill.place < length offers) fills
  places_are =
      All-from_recursion (λ fill. fill.place < length offers) fills
      (each_fill (fill_of prices flow offers) offers (λ fill. fill.place < length offers)
      (λ place o there. slice_get_within offers place o there) [] offers refl)

  -- and gives no more than that offer has
  pub gives_within : ((place : ℕ) (o : Offer) → slice_get offers place ≡ Some o → gives prices flow offers o ≤ o.amount)
      → All (λ fill. IfSome (slice_get offers fill.place) (λ o. fill.gives ≤ o.amount)) fills
  gives_within has =
      All-from_recursion (λ fill. IfSome (slice_get offers fill.place) (λ o. fill.gives ≤ o.amount)) fills
      (each_fill (fill_of prices flow offers) offers
      (λ fill. IfSome (slice_get offers fill.place) (λ o. fill.gives ≤ o.amount))
      (λ place o there. rw there (has place o there)) [] offers refl)
