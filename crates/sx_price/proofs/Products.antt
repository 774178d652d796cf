-- Products, over plain variables.
use Rattle.std.proofs.Common.{ℕ, ◌*◌, ◌-◌, ◌<◌, ◌≤◌, arith}
use Rattle.std.proofs.Math.Nat.{le_of_mul-le-mul_right, mul-le-mul_left, mul-le-mul_right, mul_right_comm}

-- what reaches a number that is cut by its p-th part reaches the number
pub le_of_cut : (a b p : ℕ) → 0 < p → a * p ≤ b * (p - 1) → a ≤ b
le_of_cut a b p positive below =
    let cut : b * (p - 1) ≤ b * p = mul-le-mul_left b (omega arith) in
    let whole : a * p ≤ b * p = omega arith in
    le_of_mul-le-mul_right whole positive

-- x is at most y * s / b, and so at most y * s' / b' where that is no less
pub le_along :
    (x y b b' s s' : ℕ) → 0 < b → s * b' ≤ s' * b → x * b ≤ s * y → x * b' ≤ s' * y
le_along x y b b' s s' positive rate below =
    let first : x * b * b' ≤ s * y * b' = mul-le-mul_right b' below in
    let second : s * b' * y ≤ s' * b * y = mul-le-mul_right y rate in
    let whole : x * b' * b ≤ s' * y * b =
    omega (arith, mul_right_comm x b' b, mul_right_comm s y b', mul_right_comm s' b y)
    in
    le_of_mul-le-mul_right whole positive
