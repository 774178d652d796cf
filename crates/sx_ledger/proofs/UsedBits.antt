-- The map of the sequence numbers that an account uses, bit by bit, and which numbers are used after it.
use Rattle.std.proofs.Common.{◌≡◌, ℕ, zero, suc, ◌+◌, ◌-◌, ◌*◌, ◌^◌, ◌<◌, ◌≤◌, Bool, true, false, eqb, ◌==◌, ◌&&◌}
use Rattle.std.proofs.Common.{◌||◌, List, [], ◌∷◌, sym, ap, ◌∙◌, inl, inr, arith}
use Rattle.std.specs.Prelude.{nat_lt}
use Rattle.std.specs.Int.{bit_at}
use Rattle.std.proofs.lemmas.Bool.{cases_Bool, cases_lt, eq-eqb, eqb-true, false_from_ne_true, lt-ltb}
use Rattle.std.proofs.lemmas.Bool.{le-ltb, or_cases, and_parts}
use Rattle.std.proofs.lemmas.List.Elements.{All-head, All-tail}
use Rattle.std.proofs.lemmas.Nat.Bits.{bit_at_above, bit_at_cat_high, bit_at_cat_low}
use Rattle.std.proofs.Math.Nat.{pow-suc}
use Rattle.sx_tx.specs.declared.tx.Tx.{Tx}
use Rattle.sx_tx.specs.Window.{bit_length, is_used, open_numbers}
use Rattle.sx_tx.proofs.UsedNumbers.{uses_both}
use Rattle.sx_ledger.specs.Body.{uses, used_below, used_numbers}
use Rattle.sx_ledger.specs.EffectLaws.{InWindow, UsedByWindowOrBody}

-- ---- the numbers that are used

abbrev pub is_use : ℕ → ℕ → Tx → Bool
is_use account seq tx = (tx.account.0 == account) && (tx.seq == seq)

-- a number that is used is in the window
pub used_within : (txs : List Tx) (account last seq : ℕ) → InWindow txs account last → uses txs account seq ≡ true
    → (last < seq) × (seq ≤ last + open_numbers)
used_within [] account last seq inside used = absurd cc
used_within (tx ∷ txs) account last seq inside used =
    let Inside = λ (tx : Tx). tx.account.0 ≡ account → (last < tx.seq) × (tx.seq ≤ last + open_numbers) in
    elim (or_cases (is_use account seq tx) (uses txs account seq) used) [
      | inl here ↦
          let both = and_parts (tx.account.0 == account) (tx.seq == seq) here in
          let is : tx.seq ≡ seq = eqb-true tx.seq seq both.1 in
          let within : (last < tx.seq) × (tx.seq ≤ last + open_numbers) =
          All-head Inside tx txs inside (eqb-true tx.account.0 account both.0) in
          (omega arith, omega arith)
      | inr there ↦ used_within txs account last seq (All-tail Inside tx txs inside) there
    ]

not_outside : (txs : List Tx) (account last seq : ℕ) → InWindow txs account last
    → ((last < seq) × (seq ≤ last + open_numbers) → ⊥) → uses txs account seq ≡ false
not_outside txs account last seq inside outside =
    false_from_ne_true (uses txs account seq) (λ used. outside (used_within txs account last seq inside used))

-- ---- the map of the used numbers

pub used_below-lt : (txs : List Tx) (account last n : ℕ) → used_below txs account last n < 2 ^ n
used_below-lt txs account last zero = omega arith
used_below-lt txs account last (suc n) =
    let rest : used_below txs account last n < 2 ^ n = used_below-lt txs account last n in
    elim (cases_Bool (uses txs account (last + 1 + n))) [
      | inl is ↦ rw is (omega (arith, pow-suc 2 n))
      | inr isnt ↦ rw isnt (omega (arith, pow-suc 2 n))
    ]

-- a bit of the map is set where its number is used
pub used_bit : (txs : List Tx) (account last k n : ℕ) → k < n
    → eqb (bit_at (used_below txs account last n) k) 1 ≡ uses txs account (last + 1 + k)
used_bit txs account last k zero lt = absurd (omega arith)
used_bit txs account last k (suc n) lt =
    let rest = used_below txs account last n in
    let fits : rest < 2 ^ n = used_below-lt txs account last n in
    elim (cases_Bool (uses txs account (last + 1 + n))) [
      | inl is ↦
          let whole : used_below txs account last (suc n) ≡ 1 * 2 ^ n + rest = rw is (omega arith) in
          elim (cases_lt k n) [
            | inl below ↦ ap (λ (map : ℕ). eqb (bit_at map k) 1) whole
                ∙ ap (λ (bit : ℕ). eqb bit 1) (bit_at_cat_low 1 n rest k below) ∙ used_bit txs account last k n below
            | inr from ↦
                let same : k ≡ n = omega arith in
                let lowest : k - n ≡ 0 = omega arith in
                let set : bit_at (used_below txs account last (suc n)) k ≡ 1 =
                ap (λ (map : ℕ). bit_at map k) whole ∙ bit_at_cat_high 1 n rest k fits from ∙ ap (bit_at 1) lowest in
                eq-eqb (bit_at (used_below txs account last (suc n)) k) 1 set
                ∙ sym (ap (λ (place : ℕ). uses txs account (last + 1 + place)) same ∙ is)
          ]
      | inr isnt ↦
          let whole : used_below txs account last (suc n) ≡ rest = rw isnt (omega arith) in
          elim (cases_lt k n) [
            | inl below ↦ ap (λ (map : ℕ). eqb (bit_at map k) 1) whole ∙ used_bit txs account last k n below
            | inr from ↦
                let same : k ≡ n = omega arith in
                ap (λ (map : ℕ). eqb (bit_at map k) 1) whole
                ∙ ap (λ (bit : ℕ). eqb bit 1) (bit_at_above rest n k fits from)
                ∙ sym (ap (λ (place : ℕ). uses txs account (last + 1 + place)) same ∙ isnt)
          ]
    ]

-- the transactions use a number where it is above the last one and its bit is set
pub used_where_set : (txs : List Tx) (account last seq : ℕ) → InWindow txs account last
    → (nat_lt last seq && (bit_at (used_numbers txs account last) (seq - suc last) == 1)) ≡ uses txs account seq
used_where_set txs account last seq inside =
    elim (cases_lt last seq) [
      | inl above ↦ rw (lt-ltb last seq above) (elim (cases_lt (seq - suc last) 64) [
        | inl lt ↦
            let place : last + 1 + (seq - suc last) ≡ seq = omega arith in
            used_bit txs account last (seq - suc last) 64 lt ∙ ap (uses txs account) place
        | inr beyond ↦ ap (λ (bit : ℕ). eqb bit 1)
            (bit_at_above (used_numbers txs account last) 64 (seq - suc last)
            (used_below-lt txs account last 64) beyond)
            ∙ sym (not_outside txs account last seq inside (λ within. let top = within.1 in absurd (omega arith)))
      ])
      | inr behind ↦ rw (le-ltb last seq behind)
          (sym (not_outside txs account last seq inside (λ within. let low = within.0 in absurd (omega arith))))
    ]

pub used_by_both : UsedByWindowOrBody
used_by_both txs account window seq is inside =
    uses_both window (used_numbers txs account window.last) seq is (used_below-lt txs account window.last 64)
    ∙ ap (λ (used : Bool). is_used window seq || used) (used_where_set txs account window.last seq inside)

-- ---- the length of a map

-- the number of the highest bit is one that is marked, or the last one
pub length_within : (map last most n : ℕ) → last ≤ most
    → ((k : ℕ) → k < n → eqb (bit_at map k) 1 ≡ true → last + suc k ≤ most) → last + bit_length n map ≤ most
unfolding bit_length
length_within map last most zero old marked = omega arith
length_within map last most (suc n) old marked =
    elim (cases_Bool (eqb (bit_at map n) 1)) [
      | inl set ↦ rw set (marked n (omega arith) set)
      | inr unset ↦ rw unset (length_within map last most n old (λ k lt. marked k (omega arith)))
    ]
