-- Sets of assets with one more asset.
use Rattle.std.proofs.Common.{◌≡◌, ℕ, ◌+◌, ◌*◌, ◌%◌, ◌^◌, ◌<◌, true, false, ap}
use Rattle.std.proofs.Common.{arith}
use Rattle.std.proofs.Common.{bit_or}
use Rattle.std.specs.Prelude.{◌==◌}
use Rattle.std.specs.Int.{bit_at}
use Rattle.std.proofs.lemmas.Bool.{eq-eqb, ne_eqb}
use Rattle.std.proofs.lemmas.Nat.{or_lt, one_shl, pow_pos, pow-add}
use Rattle.std.proofs.Math.Nat.{div-eq_of_lt}
use Rattle.std.proofs.lemmas.Nat.Bits.{bit_at-lt, bit_at_or, bit_at-pow_same, bit_at-pow_other}
use Rattle.sx_dual.specs.Cuts.{is_in}

pub twice : (k : ℕ) → 2 ^ (k + 1) ≡ 2 * 2 ^ k
twice k = omega (arith, pow-add 2 k 1)

module _ (set asset : ℕ) (few : asset < 32) (earlier : set < 2 ^ asset) where
  marked : bit_or set ((1 * 2 ^ asset) % 2 ^ 32) ≡ bit_or set (2 ^ asset)
  marked = ap (λ x. bit_or set x) (one_shl asset 32 few)

  pub marked_within : bit_or set ((1 * 2 ^ asset) % 2 ^ 32) < 2 ^ (asset + 1)
  marked_within =
      rw marked (or_lt (asset + 1) set (2 ^ asset) (omega (arith, twice asset))
      (omega (arith, twice asset, pow_pos asset)))

  pub marked_itself : is_in (bit_or set ((1 * 2 ^ asset) % 2 ^ 32)) asset ≡ true
  marked_itself =
      let at = bit_at_or set (2 ^ asset) asset in
      let one = bit_at-pow_same asset in
      let is : bit_at (bit_or set (2 ^ asset)) asset ≡ 1 = omega (arith, at, one, bit_at-lt set asset) in
      rw marked (eq-eqb (bit_at (bit_or set (2 ^ asset)) asset) 1 is)

  pub marked_others : (a : ℕ) → a < asset → is_in (bit_or set ((1 * 2 ^ asset) % 2 ^ 32)) a ≡ is_in set a
  marked_others a lt =
      let at = bit_at_or set (2 ^ asset) a in
      let none = bit_at-pow_other asset a (λ same. absurd (omega arith)) in
      let is : bit_at (bit_or set (2 ^ asset)) a ≡ bit_at set a = omega (arith, at, none) in
      rw marked (ap (λ x. x == 1) is)

  pub unmarked : is_in set asset ≡ false
  unmarked =
      let none : bit_at set asset ≡ 0 = ap (λ x. x % 2) (div-eq_of_lt earlier) in
      ne_eqb (bit_at set asset) 1 (λ is. omega (arith, none, is))
