-- The highest bit of a map, and the window that it leads to.
use Rattle.std.proofs.Common.{◌≡◌, ◌≢◌, ℕ, zero, suc, ◌+◌, ◌-◌, ◌*◌, ◌%◌, ◌^◌, ◌<◌, false, eqb, refl, sym, ap, ◌∙◌}
use Rattle.std.proofs.Common.{arith, inl, inr}
use Rattle.std.specs.Int.{bit_at, IsBitSet}
use Rattle.std.specs.Int.Bits.{bit_and}
use Rattle.std.specs.Int.Count.{count_leading_zeros}
use Rattle.std.proofs.lemmas.Bool.{cases_eq, cases_lt, ne_eqb}
use Rattle.std.proofs.lemmas.Nat.{leading_top, pow_pos}
use Rattle.std.proofs.lemmas.Nat.Bits.{bit_at-lt, bit_at_above, and_pow}
use Rattle.std.proofs.Math.Nat.{div-eq_of_lt-le, pow-suc, zero-mul}
use Rattle.sx_tx.specs.declared.window.Window.{Window}
use Rattle.sx_tx.specs.Window.{bit_length, Next}

-- a bit, as its number and as a test
set_is : (map i : ℕ) → IsBitSet map i → bit_at map i ≡ 1
set_is map i set =
    elim (cases_lt (bit_at map i) 1) [
      | inl lt ↦ absurd (set (and_pow map i ∙
          ap (λ (b : ℕ). b * 2 ^ i) (let b : bit_at map i ≡ 0 = omega arith in b) ∙ zero-mul (2 ^ i)))
      | inr le ↦ omega (arith, bit_at-lt map i)
    ]

set_from : (map i : ℕ) → bit_at map i ≡ 1 → IsBitSet map i
set_from map i e none =
    let zero_is : 1 * 2 ^ i ≡ 0 = ap (λ (b : ℕ). b * 2 ^ i) (sym e) ∙ sym (and_pow map i) ∙ none in
    absurd (omega (arith, pow_pos i))

unset_is : (map i : ℕ) → (IsBitSet map i → ⊥) → bit_at map i ≡ 0
unset_is map i unset =
    elim (cases_lt (bit_at map i) 1) [
      | inl lt ↦ omega arith
      | inr le ↦ absurd (unset (set_from map i (omega (arith, bit_at-lt map i))))
    ]

highest_is : (n map i : ℕ) → i < n → bit_at map i ≡ 1 → ((k : ℕ) → i < k → k < n → bit_at map k ≡ 0) →
    bit_length n map ≡ suc i
unfolding bit_length
highest_is zero map i lt set unset = absurd (omega arith)
highest_is (suc n) map i lt set unset =
    elim (cases_lt i n) [
      | inl below ↦ rw (unset n below (omega arith))
          (highest_is n map i below set (λ k above within. unset k above (omega arith)))
      | inr at ↦ let same : i ≡ n = omega arith in rw (← same) (rw set refl)
    ]

-- a map that is not 0 has a highest bit, and the leading zeros say where
pub highest_of : (map : ℕ) → map ≢ 0 → map < 2 ^ 64 → (i : ℕ) × (i < 64) × IsBitSet map i ×
    (64 - count_leading_zeros 64 map ≡ suc i) × (bit_length 64 map ≡ suc i)
highest_of map some fits =
    let t = leading_top 64 map (omega arith) fits in
    let set : bit_at map t.0 ≡ 1 = ap (λ (q : ℕ). q % 2)
    (div-eq_of_lt-le {k = 1} (2 ^ t.0) (omega (arith, t.2)) (omega (arith, t.3, pow-suc 2 t.0))) in (
      t.0,
      omega (arith, t.1),
      set_from map t.0 set,
      omega (arith, t.1),
      highest_is 64 map t.0 (omega (arith, t.1)) set
          (λ k above within. bit_at_above map (suc t.0) k t.3 (omega arith)),
    )

pub next_is : (window : Window) (map i : ℕ) → i < 64 → IsBitSet map i →
    ((k : ℕ) → i < k → k < 64 → IsBitSet map k → ⊥) →
    Next 1 window map ≡ record { last = window.last + 1 + i; used = 0 }
next_is window map i lt set unset =
    let some : eqb map 0 ≡ false = ne_eqb map 0 (λ e. set (ap (λ (m : ℕ). bit_and m (2 ^ i)) e)) in
    let highest : bit_length 64 map ≡ suc i =
    highest_is 64 map i lt (set_is map i set) (λ k above within. unset_is map k (unset k above within)) in
    rw some (rw highest (ap (λ (n : ℕ). record { last = n; used = 0 })
    (let n : window.last + suc i ≡ window.last + 1 + i = omega arith in n)))

none_set : 64 - count_leading_zeros 64 0 ≡ bit_length 64 0
unfolding bit_length count_leading_zeros
none_set = refl

-- the bits of a word but its leading zeros
pub length_is : (map : ℕ) → map < 2 ^ 64 → 64 - count_leading_zeros 64 map ≡ bit_length 64 map
length_is map fits =
    elim (cases_eq map 0) [
      | inl none ↦ rw none none_set
      | inr some ↦ let top = highest_of map some fits in top.3 ∙ sym top.4
    ]
