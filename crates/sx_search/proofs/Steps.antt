-- One step: digits that are dropped, and the quotients without them.
use Rattle.std.proofs.Common.{◌≡◌, ℕ, ◌+◌, ◌*◌, ◌/◌, ◌^◌, ◌<◌, ◌≤◌, inl, inr, ap, subst, ◌∙◌, arith}
use Rattle.std.proofs.Math.Nat.{div-div-eq-div-mul, mul_comm, pow-le-pow_right}
use Rattle.std.proofs.lemmas.Bool.{cases_lt}
use Rattle.std.proofs.lemmas.Nat.{le-div, pow_pos, shr_below}
use Rattle.sx_curve.specs.Search.{binary_digits, dropped_digits}
use Rattle.sx_curve.proofs.Digits.{digits_are_least}

pub dropped_most : (volume : ℕ) → volume < 2 ^ 128 → volume < 2 ^ (64 + dropped_digits volume)
dropped_most volume fits =
    let digits = (digits_are_least volume fits).0 in
    let more : 2 ^ binary_digits volume ≤ 2 ^ (64 + dropped_digits volume) =
    pow-le-pow_right (omega arith) (omega arith) in
    omega arith

pub dropped_least : (volume : ℕ) → volume < 2 ^ 128 → 0 < volume → 2 ^ dropped_digits volume ≤ volume
dropped_least volume fits some =
    elim (cases_lt volume (2 ^ dropped_digits volume)) [
      | inl less ↦
          let few = (digits_are_least volume fits).1 (dropped_digits volume) less in
          let none : dropped_digits volume ≡ 0 = omega arith in
          let one : volume < 2 ^ 0 = subst (λ (d : ℕ). volume < 2 ^ d) none less in
          absurd (omega arith)
      | inr enough ↦ enough
    ]

-- without the dropped digits a volume, and what is no more, is below 2^64
pub cut_below : (n volume dropped : ℕ) → n ≤ volume → volume < 2 ^ (64 + dropped) → n / 2 ^ dropped < 2 ^ 64
cut_below n volume dropped le most = shr_below n 64 dropped (omega arith)

-- without them some digit is left
pub cut_positive : (volume dropped : ℕ) → 2 ^ dropped ≤ volume → 0 < volume / 2 ^ dropped
cut_positive volume dropped least =
    let one : 1 ≤ volume / 2 ^ dropped = le-div 1 volume (2 ^ dropped) (pow_pos dropped) (omega arith) in
    omega arith

-- to shift first and then to divide is to divide by both
pub shifted_first : (n divisor exponent : ℕ) → n / 2 ^ exponent / divisor ≡ n / (divisor * 2 ^ exponent)
shifted_first n divisor exponent =
    div-div-eq-div-mul n (2 ^ exponent) divisor ∙ ap (λ (d : ℕ). n / d) (mul_comm (2 ^ exponent) divisor)
