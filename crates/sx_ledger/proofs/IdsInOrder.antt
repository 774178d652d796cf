-- Numbers that stand in order, each above the one before it.
use Rattle.std.proofs.Common.{◌≡◌, ℕ, zero, suc, ◌+◌, true, List, [], ◌∷◌, Option, Some, None, refl, arith}
use Rattle.std.specs.Prelude.{nat_lt}
use Rattle.std.specs.List.Sorted.{IsStrictlyIncreasing}
use Rattle.std.proofs.lemmas.Bool.{and_from, ltb-true, lt-ltb}
use Rattle.sx_bytes.specs.Grammar.{may_follow, in_order}
use Rattle.sx_bytes.proofs.Ordered.{and_parts}

-- numbers of which each is above the one before it
pub increasing_from_order : (before : Option ℕ) (xs : List ℕ) → in_order nat_lt before xs ≡ true
    → IsStrictlyIncreasing xs
increasing_from_order before [] ordered k lt = absurd (omega arith)
increasing_from_order before (x ∷ []) ordered k lt = absurd (omega arith)
increasing_from_order before (x ∷ y ∷ xs) ordered zero lt =
    let rest = and_parts (may_follow nat_lt before x) (in_order nat_lt (Some x) (y ∷ xs)) ordered in
    ltb-true x y (and_parts (nat_lt x y) (in_order nat_lt (Some y) xs) rest.1).0
increasing_from_order before (x ∷ y ∷ xs) ordered (suc k) lt =
    let rest = and_parts (may_follow nat_lt before x) (in_order nat_lt (Some x) (y ∷ xs)) ordered in
    let step : suc k + 1 ≡ suc (k + 1) = omega arith in
    rw step (increasing_from_order (Some x) (y ∷ xs) rest.1 k (omega arith))

order_after : (x : ℕ) (xs : List ℕ) → IsStrictlyIncreasing (x ∷ xs) → in_order nat_lt (Some x) xs ≡ true
order_after x [] up = refl
order_after x (y ∷ ys) up =
    and_from _ _ (lt-ltb x y (up 0 (omega arith))) (order_after y ys (λ k lt. let step : suc k + 1 ≡ suc (k + 1) =
    omega arith in rw step at (up (suc k) (omega arith))))

pub order_from_increasing : (xs : List ℕ) → IsStrictlyIncreasing xs → in_order nat_lt None xs ≡ true
order_from_increasing [] up = refl
order_from_increasing (x ∷ xs) up = order_after x xs up
