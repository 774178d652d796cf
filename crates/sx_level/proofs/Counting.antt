-- How many pushes and searches there are at most.
use Rattle.std.proofs.Common.{◌≡◌, ℕ, ◌+◌, ◌-◌, ◌*◌, ◌^◌, ◌<◌, ◌≤◌, inl, inr, ap, refl, sym, arith}
use Rattle.std.specs.Int.Count.{count_leading_zeros}
use Rattle.std.proofs.lemmas.Bool.{cases_eq, cases_lt}
use Rattle.std.proofs.lemmas.Nat.{leading_length, pow-add, pow_below, pow_pos}
use Rattle.std.proofs.Math.Nat.{mul-le-mul_left, mul-le-mul_right}
use Rattle.sx_dual.specs.Tables.{AreBounds, BoundsTable, high_of}
use Rattle.sx_dual.proofs.Ranges.{entry_range}
use Rattle.sx_level.specs.Solved.{HaveDigits, arc_count, most_searches}

pub twice : (k : ℕ) → 2 ^ (k + 1) ≡ 2 * 2 ^ k
twice k = omega (arith, pow-add 2 k 1)

-- each of k pushes takes at least the scale, and less than r times the scale is left for each of these terms
pub few_pushes : (n k r scale most before now : ℕ) → 1 ≤ n → k * scale + now ≤ before →
    before ≤ now + n * (n + 1) * most → most < r * scale → k < n * (n + 1) * r
few_pushes n k r scale most before now some taken limit below =
    elim (cases_lt k (n * (n + 1) * r)) [
      | inl few ↦ few
      | inr many ↦
          let all : n * (n + 1) * r * scale ≤ k * scale = mul-le-mul_right scale many in
          let each : n * (n + 1) * (most + 1) ≤ n * (n + 1) * (r * scale) =
          mul-le-mul_left (n * (n + 1)) (let le : most + 1 ≤ r * scale = omega arith in le) in
          let positive : 1 * 1 ≤ n * (n + 1) = omega arith in
          absurd (omega (arith, all, each))
    ]

-- two searches for each arc and digit
four_less : (n k : ℕ) → n * (n + 1) * 16 + 2 * k * arc_count n ≤ 2 * (k + 4) * arc_count n
four_less n k = omega arith

-- At a scale of four digits less, less than 16 times the scale is left, and else less than 2, 4 or 8. That is twice as
-- many at most as the digits that are left out then, and twice again.
pub scale_rate : (digits : ℕ) → 1 ≤ digits → (r : ℕ) × (2 ^ digits ≡ r * 2 ^ (digits - 4)) ×
    ((n : ℕ) → n * (n + 1) * r + 2 * (digits - 4) * arc_count n ≤ 2 * digits * arc_count n)
scale_rate digits some =
    elim (cases_lt 3 digits) [
      | inl many ↦
          let same : digits - 4 + 4 ≡ digits = omega arith in
          let power : 2 ^ digits ≡ 2 ^ (digits - 4) * 2 ^ 4 = rw same at (pow-add 2 (digits - 4) 4) in
          (16, omega (arith, power), λ n. rw same at (four_less n (digits - 4)))
      | inr few ↦
          elim (cases_eq digits 1) [
            | inl one ↦ rw one (2, refl, λ n. omega arith)
            | inr not_one ↦
                elim (cases_eq digits 2) [
                  | inl two ↦ rw two (4, refl, λ n. omega arith)
                  | inr not_two ↦
                      let three : digits ≡ 3 = omega arith in
                      rw three (8, refl, λ n. omega arith)
                ]
          ]
    ]

pub times_le : (x y a : ℕ) → x ≤ y → x * a ≤ y * a
times_le x y a le = mul-le-mul_right a le

-- n levels of so many searches for each of b digits
within_most : (n b : ℕ) → n * (2 * b * arc_count n) ≤ most_searches n b
within_most n b = omega arith

-- a number of no digits
pub zero_digits : (value digits : ℕ) → digits ≡ 0 → value < 2 ^ digits → value ≡ 0
zero_digits value digits none below =
    let one : value < 2 ^ 0 = rw none at below in omega (arith, one)

-- ---- binary digits

pub digits_enough : (width value : ℕ) → value < 2 ^ width → value < 2 ^ (width - count_leading_zeros width value)
digits_enough width value fits =
    let top = leading_length width value fits in
    let digits : width - count_leading_zeros width value ≡ top.0 = omega (arith, top.1) in
    rw digits top.2

pub digits_fewest : (width value b : ℕ) → value < 2 ^ width → value < 2 ^ b →
    width - count_leading_zeros width value ≤ b
digits_fewest width value b fits below =
    let top = leading_length width value fits in
    let digits : width - count_leading_zeros width value ≡ top.0 = omega (arith, top.1) in
    elim (cases_lt b top.0) [
      | inl more ↦
          elim (cases_eq (b + 1) top.0) [
            | inl same ↦
                let power : 2 ^ (b + 1) ≡ 2 ^ top.0 = ap (λ k. 2 ^ k) same in
                absurd (omega (arith, power, top.3, twice b))
            | inr other ↦
                let power = pow_below (b + 1) top.0 (omega arith) in
                absurd (omega (arith, power, top.3, twice b))
          ]
      | inr few ↦ omega arith
    ]

-- ---- all searches

-- an asset's entry with itself is 0, so that it has no digits
below_power : (bounds : BoundsTable) (d : ℕ) → AreBounds bounds → HaveDigits bounds.assets (high_of bounds) d →
    (s b : ℕ) → s < bounds.assets → b < bounds.assets → high_of bounds s b < 2 ^ d
below_power bounds d are digits s b s_lt b_lt =
    elim (cases_eq s b) [
      | inl same ↦
          let itself : high_of bounds s b ≡ high_of bounds s s = ap (λ x. high_of bounds s x) (sym same) in
          omega (arith, itself, are.high.diagonal s s_lt, pow_pos d)
      | inr other ↦ digits s b s_lt b_lt other
    ]

-- each entry has at most 103 digits
most_digits : (bounds : BoundsTable) → AreBounds bounds → HaveDigits bounds.assets (high_of bounds) 103
most_digits bounds are s b s_lt b_lt other =
    omega (arith, entry_range bounds.assets bounds.high are.high s b s_lt b_lt)

-- and there are at most 32 assets
most_of_few : (n : ℕ) → n ≤ 32 → most_searches n 103 ≤ most_searches 32 103
most_of_few n few =
    let next : n + 1 ≤ 33 = omega arith in
    let square : n * (n + 1) ≤ 32 * 33 = omega (arith, times_le n 32 (n + 1) few, mul-le-mul_left 32 next) in
    let arcs : 2 * arc_count n + 1 ≤ 4225 = omega (arith, square) in
    let levels : (n + 1) * 104 ≤ 3432 = omega arith in
    let one : (n + 1) * 104 * (2 * arc_count n + 1) ≤ 3432 * (2 * arc_count n + 1) =
    times_le ((n + 1) * 104) 3432 (2 * arc_count n + 1) levels in
    let two : 3432 * (2 * arc_count n + 1) ≤ 3432 * 4225 = mul-le-mul_left 3432 arcs in
    omega (arith, one, two)

module _ (bounds : BoundsTable) (are : AreBounds bounds) (most before now : ℕ)
    (least : (m : ℕ) →
    ((s b : ℕ) → s < bounds.assets → b < bounds.assets → high_of bounds s b ≤ m) → most ≤ m)
    (counted : (d : ℕ) → most < 2 ^ d → now ≤ before + bounds.assets * (2 * d * arc_count bounds.assets)) where
  pub all_counted : (d : ℕ) → HaveDigits bounds.assets (high_of bounds) d →
      now ≤ before + most_searches bounds.assets d
  all_counted d digits =
      let le = least (2 ^ d - 1) (λ s b s_lt b_lt. omega (arith, below_power bounds d are digits s b s_lt b_lt)) in
      omega (arith, counted d (omega (arith, le, pow_pos d)), within_most bounds.assets d)

  pub all_limited : now ≤ before + most_searches 32 103
  all_limited =
      omega (arith, all_counted 103 (most_digits bounds are), most_of_few bounds.assets are.assets.few)
