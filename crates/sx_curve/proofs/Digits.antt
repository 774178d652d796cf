-- How many binary digits a number has.
use Rattle.std.proofs.Common.{◌≡◌, ℕ, suc, ◌+◌, ◌*◌, ◌^◌, ◌<◌, ◌≤◌, inl, inr, subst, arith}
use Rattle.std.proofs.lemmas.Bool.{cases_lt}
use Rattle.std.proofs.lemmas.Nat.{leading_length}
use Rattle.std.proofs.Math.Nat.{pow-le-pow_right, pow-suc}
use Rattle.sx_curve.specs.Laws.{DigitsAreLeast}
use Rattle.sx_curve.specs.Search.{binary_digits}

-- the digits of a number of which twice is not below their power
fewest : (n m d : ℕ) → 2 ^ m ≤ 2 * n + 1 → n < 2 ^ d → m ≤ d
fewest n m d most below =
    elim (cases_lt d m) [
      | inl less ↦
          let double : 2 ^ suc d ≤ 2 ^ m = pow-le-pow_right (omega arith) (omega arith) in
          absurd (omega (arith, pow-suc 2 d))
      | inr enough ↦ enough
    ]

pub digits_are_least : DigitsAreLeast
digits_are_least n below =
    let (m, whole, less, most) = leading_length 128 n below in
    let digits : m ≡ binary_digits n = omega arith in
    (subst (λ (d : ℕ). n < 2 ^ d) digits less, λ d fits. omega (arith, fewest n m d most fits))
