-- What must trade is within what may trade.
use Rattle.std.proofs.Common.{◌≡◌, ℕ, ◌≤◌, Bool, true, false, List, [], ◌∷◌, inl, inr, arith}
use Rattle.std.specs.List.{filter, sum_by}
use Rattle.std.proofs.lemmas.Bool.{cases_Bool}
use Rattle.std.proofs.lemmas.List.Sums.{sum_by-cons}
use Rattle.std.proofs.Math.Nat.{mul-le-mul_left}
use Rattle.sx_price.proofs.Decided.{must_is_may}
use Rattle.sx_ledger.specs.Bounds.{may_trade_at, must_trade_at, pair_of, price_of}
use Rattle.sx_ledger.specs.EffectLaws.{LowWithinHigh, MustWithinMay}

-- a stricter test keeps less
sum_by-stricter : {X : Type 0} (f : X → ℕ) (p q : X → Bool) → ((x : X) → p x ≡ true → q x ≡ true)
    → (xs : List X) → sum_by f (filter p xs) ≤ sum_by f (filter q xs)
sum_by-stricter f p q stricter [] = omega arith
sum_by-stricter f p q stricter (x ∷ xs) =
    let rest : sum_by f (filter p xs) ≤ sum_by f (filter q xs) = sum_by-stricter f p q stricter xs in
    elim (cases_Bool (p x)) [
      | inl keeps ↦ rw (keeps, stricter x keeps)
          (omega (arith, sum_by-cons f x (filter p xs), sum_by-cons f x (filter q xs)))
      | inr drops ↦ elim (cases_Bool (q x)) [
        | inl keeps ↦ rw (drops, keeps) (omega (arith, sum_by-cons f x (filter q xs)))
        | inr too ↦ rw (drops, too) rest
      ]
    ]

pub must_within_may : MustWithinMay
must_within_may prices j offers =
    sum_by-stricter (λ offer. offer.amount) (must_trade_at prices j) (may_trade_at prices)
    (λ offer. must_is_may (price_of prices offer.sell) (price_of prices offer.buy) offer.limit j) offers

pub low_within_high : LowWithinHigh
low_within_high prices j true offers sell buy = omega arith
low_within_high prices j false offers sell buy =
    mul-le-mul_left (price_of prices sell) (must_within_may prices j (pair_of sell buy offers))
