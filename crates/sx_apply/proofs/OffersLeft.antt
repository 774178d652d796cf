-- Offers that lose what their fills give, in place.
use Rattle.std.proofs.Common.{◌≡◌, ℕ, suc, ◌+◌, ◌-◌, ◌<◌, ◌≤◌, Bool, true, false, cond, eqb, ltb, List, [], ◌∷◌, ◌++◌}
use Rattle.std.proofs.Common.{length, get_or, take, drop, set, map, None, Some, refl, sym, ap, ap₂, ◌∙◌, inl, inr}
use Rattle.std.proofs.Common.{arith}
use Rattle.std.specs.Prelude.{All, IfSome, slice_get}
use Rattle.std.specs.List.{filter}
use Rattle.std.proofs.Math.Seq.{drop-cons}
use Rattle.std.proofs.lemmas.Bool.{cases_Bool, eq-eqb, eqb-true, ne_eqb, ltb-false, lt-ltb}
use Rattle.std.proofs.lemmas.List.{drop-drop, drop-set-lt, map-append, take_more, take_more_set}
use Rattle.std.proofs.lemmas.List.Elements.{All-head, All-tail, filter-append}
use Rattle.std.proofs.lemmas.Option.{get_or_from_slice_get, none-some, same_Some, slice_get_read, slice_get_within}
use Rattle.sx_apply.specs.NextFill.{after_next, next_gives}
use Rattle.sx_fill.specs.AllFills.{fill_of}
use Rattle.sx_fill.specs.PairFills.{trading}
use Rattle.sx_ledger.specs.declared.fill.Fill.{Fill}
use Rattle.sx_ledger.specs.declared.offer.Offer.{Offer}
use Rattle.sx_ledger.specs.Fills.{Flow, gives}
use Rattle.sx_ledger.specs.Trade.{offer_traded}
use Rattle.sx_apply.proofs.FillPlaces.{no_gives}

-- ---- the next fill

-- fills that give no more than their offers have
abbrev pub AllWithin : List Offer → List Fill → Type 0
AllWithin offers fills = All (λ fill. IfSome (slice_get offers fill.place) (λ offer. fill.gives ≤ offer.amount)) fills

pub next_within : (offers : List Offer) (fills : List Fill) (place : ℕ) (o : Offer) → slice_get offers place ≡ Some o
    → AllWithin offers fills → next_gives place fills ≤ o.amount
next_within offers [] place o there all = omega arith
next_within offers (fill ∷ fills) place o there all =
    let head : IfSome (slice_get offers fill.place) (λ offer. fill.gives ≤ offer.amount) =
    All-head (λ fill. IfSome (slice_get offers fill.place) (λ offer. fill.gives ≤ offer.amount)) fill fills all in
    elim (cases_Bool (eqb fill.place place)) [
      | inl here ↦
          let at : slice_get offers fill.place ≡ Some o = ap (slice_get offers) (eqb-true fill.place place here) ∙
          there in
          rw here (rw at at head)
      | inr later ↦ rw later (omega arith)
    ]

pub after_within : (offers : List Offer) (fills : List Fill) (place : ℕ) → AllWithin offers fills
    → AllWithin offers (after_next place fills)
after_within offers [] place all = all
after_within offers (fill ∷ fills) place all =
    elim (cases_Bool (eqb fill.place place)) [
      | inl here ↦ rw here (All-tail (λ fill. IfSome (slice_get offers fill.place)
          (λ offer. fill.gives ≤ offer.amount)) fill fills all)
      | inr later ↦ rw later all
    ]

module _ (f : ℕ → Offer → Fill) (placed : (place : ℕ) (o : Offer) → (f place o).place ≡ place) where
  -- fills of later offers
  none_next : (place q : ℕ) (os : List Offer) → place < q
      → (next_gives place (trading f q os) ≡ 0) × (after_next place (trading f q os) ≡ trading f q os)
  none_next place q [] lt = (refl, refl)
  none_next place q (o ∷ os) lt =
      elim (cases_Bool (ltb 0 (f q o).value)) [
        | inl trades ↦
            let other : eqb (f q o).place place ≡ false =
            ne_eqb (f q o).place place (λ e. absurd (omega (arith, placed q o))) in
            rw trades (rw other (refl, refl))
        | inr none ↦ rw none (none_next place (suc q) os (omega arith))
      ]

  next_is : (place : ℕ) (o : Offer) (os : List Offer) → ((f place o).value ≡ 0 → (f place o).gives ≡ 0)
      → (next_gives place (trading f place (o ∷ os)) ≡ (f place o).gives)
      × (after_next place (trading f place (o ∷ os)) ≡ trading f (suc place) os)
  next_is place o os nothing =
      elim (cases_Bool (ltb 0 (f place o).value)) [
        | inl trades ↦
            let same : eqb (f place o).place place ≡ true = eq-eqb (f place o).place place (placed place o) in
            rw trades (rw same (refl, refl))
        | inr none ↦
            let later = none_next place (suc place) os (omega arith) in
            let zero_given : (f place o).gives ≡ 0 = nothing (omega (arith, ltb-false 0 (f place o).value none)) in
            rw none (later.0 ∙ sym zero_given, later.1)
      ]

-- ---- what is left of offers

module _ (prices : List ℕ) (flow : Flow) (whole : List Offer) where
  abbrev pub left_over : List Offer → List Offer
  left_over os = filter (λ o. ltb 0 o.amount) (map (offer_traded prices flow whole) os)

  pub left_over_more : (place : ℕ) (o : Offer) → slice_get whole place ≡ Some o
      → left_over (take (place + 1) whole) ≡ left_over (take place whole) ++ left_over (o ∷ [])
  left_over_more place o there =
      let lt = slice_get_within whole place o there in
      let more : take (place + 1) whole ≡ take place whole ++ o ∷ [] =
      take_more whole place o lt
      ∙ ap (λ (x : Offer). take place whole ++ x ∷ []) (get_or_from_slice_get whole place o o there) in
      ap left_over more
      ∙ ap (filter (λ o. ltb 0 o.amount)) (map-append (offer_traded prices flow whole) (take place whole) (o ∷ []))
      ∙ filter-append (λ o. ltb 0 o.amount) (map (offer_traded prices flow whole) (take place whole))
      (map (offer_traded prices flow whole) (o ∷ []))

  -- where none trades, all are left as they are
  pub all_left : (place : ℕ) (os : List Offer) → [] ≡ trading (fill_of prices flow whole) place os
      → All (λ (o : Offer). 1 ≤ o.amount) os → left_over os ≡ os
  all_left place [] none some = refl
  all_left place (o ∷ os) none some =
      elim (cases_Bool (ltb 0 (fill_of prices flow whole place o).value)) [
        | inl trades ↦
            let one : [] ≡ fill_of prices flow whole place o ∷ trading (fill_of prices flow whole) (suc place) os =
            rw trades at none in
            absurd cc
        | inr not ↦
            let later : [] ≡ trading (fill_of prices flow whole) (suc place) os = rw not at none in
            let zero_given : gives prices flow whole o ≡ 0 =
            no_gives prices flow whole o (omega (arith, ltb-false 0 (fill_of prices flow whole place o).value not)) in
            let has : 1 ≤ o.amount = All-head (λ (o : Offer). 1 ≤ o.amount) o os some in
            let same : o.amount - gives prices flow whole o ≡ o.amount = omega arith in
            let kept : ltb 0 (o.amount - gives prices flow whole o) ≡ true =
            lt-ltb 0 (o.amount - gives prices flow whole o) (omega arith) in
            rw kept
            (ap₂ (λ (n : ℕ) (xs : List Offer). record o { amount = n } ∷ xs) same
            (all_left (suc place) os later (All-tail (λ (o : Offer). 1 ≤ o.amount) o os some)))
      ]

  rest_is : (place : ℕ) (o : Offer) → slice_get whole place ≡ Some o → drop place whole ≡ o ∷ drop (suc place) whole
  rest_is place o there =
      drop-cons whole place o (slice_get_within whole place o there)
      ∙ ap (λ (x : Offer). x ∷ drop (suc place) whole) (get_or_from_slice_get whole place o o there)

  module _ (place : ℕ) (o : Offer) (there : slice_get whole place ≡ Some o) (left : List Fill)
      (fills_are : left ≡ trading (fill_of prices flow whole) place (drop place whole)) where
    fills_from : left ≡ trading (fill_of prices flow whole) place (o ∷ drop (suc place) whole)
    fills_from = fills_are ∙ ap (trading (fill_of prices flow whole) place) (rest_is place o there)

    pub gives_next : next_gives place left ≡ gives prices flow whole o
    gives_next =
        ap (next_gives place) fills_from
        ∙ (next_is (fill_of prices flow whole) (λ p o. refl) place o (drop (suc place) whole)
        (no_gives prices flow whole o)).0

    pub fills_next : after_next place left ≡ trading (fill_of prices flow whole) (place + 1) (drop (place + 1) whole)
    fills_next =
        ap (after_next place) fills_from
        ∙ (next_is (fill_of prices flow whole) (λ p o. refl) place o (drop (suc place) whole)
        (no_gives prices flow whole o)).1
        ∙ ap (λ (n : ℕ). trading (fill_of prices flow whole) n (drop n whole))
        (let e : suc place ≡ place + 1 = omega arith in e)

    pub some_left : (units : ℕ) → units ≡ next_gives place left → ltb 0 (o.amount - units) ≡ true
        → left_over (o ∷ []) ≡ record o { amount = o.amount - units } ∷ []
    some_left units is some =
        let same : units ≡ gives prices flow whole o = is ∙ gives_next in
        let test : ltb 0 (offer_traded prices flow whole o).amount ≡ true =
        ap (λ (n : ℕ). ltb 0 (o.amount - n)) (sym same) ∙ some in
        let kept : left_over (o ∷ []) ≡ offer_traded prices flow whole o ∷ [] = rw test refl in
        kept ∙ ap (λ (n : ℕ). record o { amount = o.amount - n } ∷ []) (sym same)

    pub none_left : (units : ℕ) → units ≡ next_gives place left → ltb 0 (o.amount - units) ≡ false
        → left_over (o ∷ []) ≡ []
    none_left units is none =
        let same : units ≡ gives prices flow whole o = is ∙ gives_next in
        let test : ltb 0 (offer_traded prices flow whole o).amount ≡ false =
        ap (λ (n : ℕ). ltb 0 (o.amount - n)) (sym same) ∙ none in
        rw test refl

-- ---- in place

pub when_some : {X : Type 0} (b : Bool) (x y : X) → cond b (Some x) None ≡ Some y → (b ≡ true) × (x ≡ y)
when_some true x y e = (refl, same_Some x y e)
when_some false x y e = absurd (none-some y e)

pub when_none : {X : Type 0} (b : Bool) (x : X) → cond b (Some x) None ≡ None → b ≡ false
when_none true x e = absurd cc
when_none false x e = refl

module _ (whole current : List Offer) (kept place : ℕ) (o : Offer) (long : length current ≡ length whole)
    (rest : drop place current ≡ drop place whole) (lt : place < length whole) (read : o ≡ get_or current place o) where
  pub there_too : slice_get whole place ≡ Some o
  there_too =
      let now = drop-cons current place o (omega arith) in
      let before = drop-cons whole place o lt in
      let same : get_or current place o ≡ get_or whole place o =
      ap (λ (xs : List Offer). get_or xs 0 o) (sym now ∙ rest ∙ before) in
      slice_get_read whole (length whole) place o refl lt (read ∙ same)

  pub rest_too : drop (place + 1) current ≡ drop (place + 1) whole
  rest_too = sym (drop-drop 1 place current) ∙ ap (drop 1) rest ∙ drop-drop 1 place whole

  pub rest_put : (y : Offer) → kept ≤ place → drop (place + 1) (set current kept y) ≡ drop (place + 1) whole
  rest_put y within = drop-set-lt (place + 1) current kept y (omega arith) ∙ rest_too

  pub front_put : (y : Offer) → kept ≤ place → take (kept + 1) (set current kept y) ≡ take kept current ++ y ∷ []
  front_put y within = take_more_set current kept y (omega arith)
