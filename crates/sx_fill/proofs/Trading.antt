-- Lists of fills: of two lists of offers together, and by two rules that agree.
use Rattle.std.proofs.Common.{◌≡◌, ℕ, suc, ◌+◌, ltb, cond, List, [], ◌∷◌, ◌++◌, length, refl, ap, ◌∙◌, inl, inr, arith}
use Rattle.std.specs.List.{AllByRecursion}
use Rattle.std.proofs.lemmas.Bool.{cases_Bool}
use Rattle.sx_fill.specs.PairFills.{trading}
use Rattle.sx_ledger.specs.declared.fill.Fill.{Fill}
use Rattle.sx_ledger.specs.declared.offer.Offer.{Offer}

-- the fill of an offer, if it trades
abbrev pub kept : Fill → List Fill → List Fill
kept fill fills = cond (ltb 0 fill.value) (fill ∷ fills) fills

kept-append : (fill : Fill) (xs ys : List Fill) → kept fill (xs ++ ys) ≡ kept fill xs ++ ys
kept-append fill xs ys = elim (cases_Bool (ltb 0 fill.value)) [ inl trades ↦ rw trades refl | inr none ↦ rw none refl ]

pub trading-append : (f : ℕ → Offer → Fill) (place : ℕ) (xs ys : List Offer)
    → trading f place (xs ++ ys) ≡ trading f place xs ++ trading f (place + length xs) ys
trading-append f place [] ys = let e : place ≡ place + 0 = omega arith in ap (λ (p : ℕ). trading f p ys) e
trading-append f place (x ∷ xs) ys =
    let next : suc place + length xs ≡ place + suc (length xs) = omega arith in
    ap (kept (f place x)) (trading-append f (suc place) xs ys ∙
    ap (λ (p : ℕ). trading f (suc place) xs ++ trading f p ys) next)
    ∙ kept-append (f place x) (trading f (suc place) xs) (trading f (place + suc (length xs)) ys)

-- two rules that say the same of each of these offers
pub trading-same : (f g : ℕ → Offer → Fill) (place : ℕ) (xs : List Offer)
    → AllByRecursion (λ x. (p : ℕ) → f p x ≡ g p x) xs → trading f place xs ≡ trading g place xs
trading-same f g place [] all = refl
trading-same f g place (x ∷ xs) all =
    ap (λ (fill : Fill). kept fill (trading f (suc place) xs)) (all.0 place)
    ∙ ap (kept (g place x)) (trading-same f g (suc place) xs all.1)

-- offers that trade nothing have no fills
pub trading-none : (f : ℕ → Offer → Fill) (place : ℕ) (xs : List Offer)
    → AllByRecursion (λ x. (p : ℕ) → (f p x).value ≡ 0) xs → trading f place xs ≡ []
trading-none f place [] all = refl
trading-none f place (x ∷ xs) all = rw (all.0 place) (trading-none f (suc place) xs all.1)
