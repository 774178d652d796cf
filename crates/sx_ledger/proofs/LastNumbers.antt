-- The last sequence number of a window is the greatest one that its account used.
use Rattle.std.proofs.Common.{◌≡◌, ◌≢◌, ℕ, zero, suc, ◌+◌, ◌-◌, ◌*◌, ◌%◌, ◌^◌, ◌<◌, ◌≤◌, true, false, cond}
use Rattle.std.proofs.Common.{◌==◌, List, [], ◌∷◌, refl, sym, ap, ◌∙◌, inl, inr, arith}
use Rattle.std.specs.Prelude.{nat_le}
use Rattle.std.specs.Int.{bit_at, IsBitSet}
use Rattle.std.proofs.lemmas.Bool.{cases_Bool, cases_lt, cases_eq, eq-eqb, eqb-true, ne_eqb, or_left, or_right}
use Rattle.std.proofs.lemmas.Bool.{and_left, and_right, both_ways, le-leb, or_from}
use Rattle.std.proofs.lemmas.Nat.{pow_pos}
use Rattle.std.proofs.lemmas.Nat.Bits.{bit_at_above, and_pow}
use Rattle.std.proofs.Math.Nat.{div-eq_of_lt-le, pow-suc, zero-mul}
use Rattle.sx_tx.specs.declared.tx.Tx.{Tx}
use Rattle.sx_tx.specs.declared.window.Window.{Window}
use Rattle.sx_tx.specs.Window.{IsWindow, Next, is_used}
use Rattle.sx_tx.proofs.WindowLaws.{next_is}
use Rattle.sx_ledger.specs.Body.{uses, used_below, used_numbers}
use Rattle.sx_ledger.specs.EffectLaws.{greatest_number, InWindow, LastIsGreatest}
use Rattle.sx_ledger.proofs.UsedBits.{is_use, used_below-lt, used_by_both, used_within}

-- ---- the greatest number

-- what one transaction adds to the greatest number
abbrev own : ℕ → Tx → ℕ
own account tx = cond (tx.account.0 == account) tx.seq 0

own_is : (account : ℕ) (tx : Tx) → own account tx ≢ 0 → is_use account (own account tx) tx ≡ true
own_is account tx some =
    elim (cases_Bool (tx.account.0 == account)) [
      | inl is ↦ rw is (eq-eqb tx.seq tx.seq refl)
      | inr isnt ↦ absurd (some (rw isnt refl))
    ]

own_above : (account seq : ℕ) (tx : Tx) → own account tx < seq → is_use account seq tx ≡ false
own_above account seq tx lt =
    elim (cases_Bool (tx.account.0 == account)) [
      | inl is ↦ let below : tx.seq < seq =
          rw is at lt in and_right (tx.account.0 == account) (tx.seq == seq)
          (ne_eqb tx.seq seq (λ e. absurd (omega arith)))
      | inr isnt ↦ and_left (tx.account.0 == account) (tx.seq == seq) isnt
    ]

-- the greatest number, where there is one, is used
greatest_used : (txs : List Tx) (account : ℕ) → greatest_number txs account ≢ 0
    → uses txs account (greatest_number txs account) ≡ true
greatest_used [] account some = absurd (some refl)
greatest_used (tx ∷ txs) account some =
    let g = greatest_number txs account in
    elim (cases_lt (own account tx) g) [
      | inl lt ↦
          let same : greatest_number (tx ∷ txs) account ≡ g = omega arith in
          let rest : uses txs account g ≡ true = greatest_used txs account (λ e. some (same ∙ e)) in
          ap (uses (tx ∷ txs) account) same ∙ or_right (is_use account g tx) (uses txs account g) rest
      | inr le ↦
          let same : greatest_number (tx ∷ txs) account ≡ own account tx = omega arith in
          let first : is_use account (own account tx) tx ≡ true = own_is account tx (λ e. some (same ∙ e)) in
          ap (uses (tx ∷ txs) account) same
          ∙ or_left (is_use account (own account tx) tx) (uses txs account (own account tx)) first
    ]

-- no greater one is used
pub above_unused : (txs : List Tx) (account seq : ℕ) → greatest_number txs account < seq → uses txs account seq ≡ false
above_unused [] account seq lt = refl
above_unused (tx ∷ txs) account seq lt =
    or_from (is_use account seq tx) (uses txs account seq) (own_above account seq tx (omega arith))
    (above_unused txs account seq (omega arith))

-- ---- the map of the used numbers

-- where none is used from a place on, the map ends there
used_below-ends : (txs : List Tx) (account last i n : ℕ) → ((k : ℕ) → i ≤ k → uses txs account (last + 1 + k) ≡ false)
    → i ≤ n → used_below txs account last n ≡ used_below txs account last i
used_below-ends txs account last i zero none le = let same : i ≡ 0 = omega arith in rw same refl
used_below-ends txs account last i (suc n) none le =
    elim (cases_lt n i) [
      | inl lt ↦ let same : i ≡ suc n = omega arith in rw same refl
      | inr ge ↦ rw (none n ge) (omega (arith, used_below-ends txs account last i n none ge))
    ]

-- ---- the window

bit_set : (map i : ℕ) → bit_at map i ≡ 1 → IsBitSet map i
bit_set map i e none =
    let zero_is : 1 * 2 ^ i ≡ 0 = ap (λ (b : ℕ). b * 2 ^ i) (sym e) ∙ sym (and_pow map i) ∙ none in
    absurd (omega (arith, pow_pos i))

bit_unset : (map k : ℕ) → bit_at map k ≡ 0 → IsBitSet map k → ⊥
bit_unset map k e set = set (and_pow map k ∙ ap (λ (b : ℕ). b * 2 ^ k) e ∙ zero-mul (2 ^ k))

-- a map whose highest bit has this place
highest_at : (window : Window) (map i : ℕ) → i < 64 → 2 ^ i ≤ map → map < 2 ^ suc i
    → Next 1 window map ≡ record { last = window.last + 1 + i; used = 0 }
highest_at window map i lt low high =
    next_is window map i lt
    (bit_set map i (ap (λ (q : ℕ). q % 2)
    (div-eq_of_lt-le {k = 1} (2 ^ i) (omega arith) (omega (arith, pow-suc 2 i)))))
    (λ k above within. bit_unset map k (bit_at_above map (suc i) k high (omega arith)))

next_at : (txs : List Tx) (account : ℕ) (window : Window) (i : ℕ) → i < 64
    → uses txs account (window.last + 1 + i) ≡ true
    → ((k : ℕ) → suc i ≤ k → uses txs account (window.last + 1 + k) ≡ false)
    → Next 1 window (used_numbers txs account window.last) ≡ record { last = window.last + 1 + i; used = 0 }
next_at txs account window i lt used unused =
    let ends : used_below txs account window.last 64 ≡ used_below txs account window.last (suc i) =
    used_below-ends txs account window.last (suc i) 64 unused (omega arith) in
    let top : used_below txs account window.last (suc i) ≡ 2 ^ i + used_below txs account window.last i =
    rw used refl in
    let below : used_below txs account window.last (suc i) < 2 ^ suc i =
    used_below-lt txs account window.last (suc i) in
    let low : 2 ^ i ≤ used_below txs account window.last (suc i) = omega arith in
    ap (Next 1 window) ends ∙ highest_at window (used_below txs account window.last (suc i)) i lt low below

-- where no sequence number is used the window does not change
none_used : (txs : List Tx) (account : ℕ) (window : Window) → window.used ≡ 0 → greatest_number txs account ≡ 0
    → Next 1 window (used_numbers txs account window.last) ≡ record { last = window.last; used = 0 }
none_used txs account window unused none =
    let map : used_below txs account window.last 64 ≡ 0 =
    used_below-ends txs account window.last 0 64
    (λ k le. above_unused txs account (window.last + 1 + k) (omega arith)) (omega arith) in
    ap (Next 1 window) map ∙ ap (λ (n : ℕ). record { last = window.last; used = n }) unused

some_used : (txs : List Tx) (account : ℕ) (window : Window) → InWindow txs account window.last
    → greatest_number txs account ≢ 0
    → Next 1 window (used_numbers txs account window.last) ≡ record { last = greatest_number txs account; used = 0 }
some_used txs account window inside some =
    let g = greatest_number txs account in
    let used : uses txs account g ≡ true = greatest_used txs account some in
    let within : (window.last < g) × (g ≤ window.last + 64) = used_within txs account window.last g inside used in
    let place : window.last + 1 + (g - window.last - 1) ≡ g = omega arith in
    let at : uses txs account (window.last + 1 + (g - window.last - 1)) ≡ true = ap (uses txs account) place ∙ used in
    next_at txs account window (g - window.last - 1) (omega arith) at
    (λ k above. above_unused txs account (window.last + 1 + k) (omega arith))
    ∙ ap (λ (n : ℕ). record { last = n; used = 0 }) place

pub last_is_greatest : LastIsGreatest
last_is_greatest txs account window unused inside =
    elim (cases_eq (greatest_number txs account) 0) [
      | inl none ↦ none_used txs account window unused none ∙ rw (eq-eqb (greatest_number txs account) 0 none) refl
      | inr some ↦ some_used txs account window inside some ∙ rw (ne_eqb (greatest_number txs account) 0 some) refl
    ]

-- ---- what is used afterwards

-- a number that is used is at most the greatest
used_reached : (txs : List Tx) (account seq : ℕ) → uses txs account seq ≡ true → seq ≤ greatest_number txs account
used_reached txs account seq used =
    elim (cases_lt (greatest_number txs account) seq) [
      | inl above ↦ absurd (both_ways (uses txs account seq) (above_unused txs account seq above) used)
      | inr le ↦ le
    ]

gapless_used : (txs : List Tx) (account : ℕ) (window : Window) (seq : ℕ) → window.used ≡ 0
    → InWindow txs account window.last → uses txs account seq ≡ true
    → is_used (Next 1 window (used_numbers txs account window.last)) seq ≡ true
gapless_used txs account window seq unused inside used =
    let g = greatest_number txs account in
    let above = (used_within txs account window.last seq inside used).0 in
    let reached = used_reached txs account seq used in
    let some : (g == 0) ≡ false = ne_eqb g 0 (λ e. absurd (omega arith)) in
    let after : Next 1 window (used_numbers txs account window.last) ≡ record { last = g; used = 0 } =
    last_is_greatest txs account window unused inside ∙ rw some refl in
    ap (λ (w : Window). is_used w seq) after ∙ or_left (nat_le seq g) _ (le-leb seq g reached)

-- in each version a number that a transaction uses is used afterwards
pub used_after : (version : ℕ) → 1 ≤ version → version ≤ 2 → (txs : List Tx) (account : ℕ) (window : Window) (seq : ℕ)
    → IsWindow version window → InWindow txs account window.last → uses txs account seq ≡ true
    → is_used (Next version window (used_numbers txs account window.last)) seq ≡ true
used_after zero some few txs account window seq is inside used = absurd (omega arith)
used_after (suc zero) some few txs account window seq is inside used =
    gapless_used txs account window seq (eqb-true window.used 0 is.map) inside used
used_after (suc (suc zero)) some few txs account window seq is inside used =
    used_by_both txs account window seq is inside ∙ or_right (is_used window seq) (uses txs account seq) used
used_after (suc (suc (suc n))) some few txs account window seq is inside used = absurd (omega arith)
