-- What the window after a block says of the sequence numbers that are used.
use Rattle.std.proofs.Common.{◌≡◌, ◌≢◌, ℕ, zero, suc, ◌+◌, ◌-◌, ◌/◌, ◌%◌, ◌^◌, ◌<◌, ◌≤◌, true, false, cond, eqb, leb}
use Rattle.std.proofs.Common.{refl, sym, ap, ◌∙◌, arith, inl, inr, IsTrue, ◌&&◌, ◌||◌, nat_le, nat_lt, ◌==◌, max}
use Rattle.std.specs.Int.{bit_at, trailing_ones}
use Rattle.std.specs.Int.Bits.{bit_or, or_zero_r}
use Rattle.std.proofs.lemmas.Bool.{cases_lt, eq-eqb, eqb-true, eqb-false, le-leb, lt-leb, lt-ltb, leb-true, and_parts}
use Rattle.std.proofs.lemmas.Bool.{and_from, or_cases, or_left}
use Rattle.std.proofs.lemmas.Nat.{or_lt, shr_le, shr-shr}
use Rattle.std.proofs.lemmas.Nat.Bits.{bit_at-lt, bit_at-suc, bit_at-zero, bit_at_above, bit_at_lowest, bit_at_or}
use Rattle.std.proofs.lemmas.Nat.Bits.{bit_at_ones, bit_at-trailing_ones}
use mir.Syntax.{w64}
use Rattle.sx_base.specs.Ranges.{most_seq}
use Rattle.sx_tx.specs.declared.window.Window.{Window}
use Rattle.sx_tx.specs.Window.{bit_length, low_run, is_map, is_marked, is_used, next_gapless, next_gapped, IsWindow}
use Rattle.sx_tx.specs.Laws.{NoneUsedNoChange, NextUsesBoth, UsedStaysUsed, NextIsWindow}

-- ---- the run of set bits at the low end

pub low_run_le : (n map : ℕ) → low_run n map ≤ n
unfolding low_run
low_run_le zero map = omega arith
low_run_le (suc n) map =
    elim (eqb (map % 2) 1) as (λ b. cond b (suc (low_run n (map / 2))) 0 ≤ suc n) [
      | true ↦ omega (arith, low_run_le n (map / 2))
      | false ↦ omega arith
    ]

-- bit i as that of the number without its lowest bit
shifted : (map i : ℕ) → bit_at map (suc i) ≡ bit_at (map / 2) i
shifted map i = bit_at-suc map i

lowest_set : (map : ℕ) → eqb (map % 2) 1 ≡ true → bit_at map 0 ≡ 1
lowest_set map e = bit_at_lowest map ∙ eqb-true (map % 2) 1 e

lowest_unset : (map : ℕ) → eqb (map % 2) 1 ≡ false → bit_at map 0 ≡ 0
lowest_unset map e =
    elim (cases_lt (bit_at map 0) 1) [
      | inl lt ↦ omega arith
      | inr le ↦
          let one : bit_at map 0 ≡ 1 = omega (arith, bit_at-lt map 0) in
          let t : eqb (map % 2) 1 ≡ true = eq-eqb (map % 2) 1 (sym (bit_at_lowest map) ∙ one) in
          absurd cc
    ]

-- the bits of the run are set
pub run_is_set : (n map i : ℕ) → i < low_run n map → bit_at map i ≡ 1
unfolding low_run
run_is_set zero map i lt = absurd (omega arith)
run_is_set (suc n) map zero lt =
    elim (eqb (map % 2) 1) as (λ b. eqb (map % 2) 1 ≡ b → 0 < cond b (suc (low_run n (map / 2))) 0 → bit_at map 0 ≡ 1) [
      | true ↦ λ e _. lowest_set map e
      | false ↦ λ e lt. absurd (omega arith)
    ] refl lt
run_is_set (suc n) map (suc i) lt =
    elim (eqb (map % 2) 1) as (λ b. suc i < cond b (suc (low_run n (map / 2))) 0 → bit_at map (suc i) ≡ 1) [
      | true ↦ λ lt. shifted map i ∙ run_is_set n (map / 2) i (omega arith)
      | false ↦ λ lt. absurd (omega arith)
    ] lt

-- the bit after the run is not set
pub run_ends : (n map : ℕ) → low_run n map < n → bit_at map (low_run n map) ≡ 0
unfolding low_run
run_ends zero map lt = absurd (omega arith)
run_ends (suc n) map lt =
    elim (eqb (map % 2) 1) as (λ b. eqb (map % 2) 1 ≡ b → cond b (suc (low_run n (map / 2))) 0 < suc n →
    bit_at map (cond b (suc (low_run n (map / 2))) 0) ≡ 0) [
      | true ↦ λ _ lt. shifted map (low_run n (map / 2)) ∙ run_ends n (map / 2) (omega arith)
      | false ↦ λ e _. lowest_unset map e
    ] refl lt

-- a run is as long as the bits that are set
pub run_is : (n map t : ℕ) → t < n → bit_at map t ≡ 0 → ((i : ℕ) → i < t → bit_at map i ≡ 1) → low_run n map ≡ t
run_is n map t lt unset set =
    elim (cases_lt (low_run n map) t) [
      | inl shorter ↦ absurd (omega (arith, run_ends n map (omega arith), set (low_run n map) shorter))
      | inr le ↦
          elim (cases_lt t (low_run n map)) [
            | inl longer ↦ absurd (omega (arith, run_is_set n map t longer))
            | inr same ↦ omega arith
          ]
    ]

pub run_of_all : (n map : ℕ) → ((i : ℕ) → i < n → bit_at map i ≡ 1) → low_run n map ≡ n
run_of_all n map set =
    elim (cases_lt (low_run n map) n) [
      | inl shorter ↦ absurd (omega (arith, run_ends n map shorter, set (low_run n map) shorter))
      | inr le ↦ omega (arith, low_run_le n map)
    ]

-- ---- what is used afterwards

pub bit_shifted : (map r i : ℕ) → bit_at (map / 2 ^ r) i ≡ bit_at map (r + i)
bit_shifted map r i = ap (λ (q : ℕ). q % 2) (shr-shr map r i)

-- the test of a bit of two maps together
either_bit : (a b i : ℕ) → eqb (bit_at (bit_or a b) i) 1 ≡ (eqb (bit_at a i) 1 || eqb (bit_at b i) 1)
either_bit a b i =
    rw (bit_at_or a b i) (
    elim (cases_lt (bit_at a i) 1) [
      | inl none ↦
          let zero_a : bit_at a i ≡ 0 = omega arith in
          let same : max (bit_at a i) (bit_at b i) ≡ bit_at b i = omega (arith, zero_a) in
          rw (same, zero_a) refl
      | inr one ↦
          let one_a : bit_at a i ≡ 1 = omega (arith, bit_at-lt a i) in
          let same : max (bit_at a i) (bit_at b i) ≡ 1 = omega (arith, one_a, bit_at-lt b i) in
          rw (same, one_a) refl
    ])

pub gapped_is : (window : Window) (map t : ℕ) → low_run 64 (bit_or window.used map) ≡ t →
    next_gapped window map ≡ record { last = window.last + t; used = bit_or window.used map / 2 ^ t }
gapped_is window map t e =
    ap (λ (n : ℕ). record { last = window.last + n; used = bit_or window.used map / 2 ^ n }) e

-- a number is used afterwards where it was used before or its bit in the map is set
pub gapped_uses : (window : Window) (map seq : ℕ) → is_used (next_gapped window map) seq ≡
    (is_used window seq || (nat_lt window.last seq && (bit_at map (seq - suc window.last) == 1)))
gapped_uses window map seq =
    let used = bit_or window.used map in
    let run : ℕ = low_run 64 used in
    elim (cases_lt window.last seq) [
      | inr le ↦
          rw (le-leb seq (window.last + run) (omega arith), le-leb seq window.last le) refl
      | inl above ↦
          let i : ℕ = seq - suc window.last in
          let both : eqb (bit_at used i) 1 ≡ (eqb (bit_at window.used i) 1 || eqb (bit_at map i) 1) =
          either_bit window.used map i in
          elim (cases_lt i run) [
            | inl within ↦
                let one : eqb (bit_at used i) 1 ≡ true = eq-eqb (bit_at used i) 1 (run_is_set 64 used i within) in
                rw (
                  le-leb seq (window.last + run) (omega arith),
                  lt-leb seq window.last above,
                  lt-ltb window.last seq above,
                ) (sym one ∙ both)
            | inr after ↦
                let place : run + (seq - suc (window.last + run)) ≡ i = omega arith in
                let same : bit_at (used / 2 ^ run) (seq - suc (window.last + run)) ≡ bit_at used i =
                bit_shifted used run (seq - suc (window.last + run)) ∙ ap (bit_at used) place in
                rw (
                  lt-leb seq (window.last + run) (omega arith),
                  lt-leb seq window.last above,
                  lt-ltb window.last seq above,
                ) (ap (λ (b : ℕ). eqb b 1) same ∙ both)
          ]
    ]

pub uses_both : NextUsesBoth
uses_both window map seq is fits = gapped_uses window map seq

-- what is beyond the window is not used
pub beyond_unused : (window : Window) (seq : ℕ) → window.used < 2 ^ 64 → window.last + 64 < seq →
    is_used window seq ≡ false
beyond_unused window seq fits past =
    let unset : bit_at window.used (seq - suc window.last) ≡ 0 =
    bit_at_above window.used 64 (seq - suc window.last) fits (omega arith) in
    rw (lt-leb seq window.last (omega arith), unset) refl

-- ---- the run of a word

pub whole_run : (used : ℕ) → used ≡ 2 ^ 64 - 1 → low_run 64 used ≡ 64
whole_run used e =
    run_of_all 64 used (λ i lt. ap (λ (u : ℕ). bit_at u i) e ∙ bit_at_ones 64 i lt)

pub run_of_ones : (used : ℕ) → used + 1 < 2 ^ 64 →
    (trailing_ones w64 used < 64) × (low_run 64 used ≡ trailing_ones w64 used)
run_of_ones used fits =
    let t = bit_at-trailing_ones w64 used fits in (t.0, run_is 64 used (trailing_ones w64 used) t.0 t.1 t.2)

-- ---- the highest bit

above_bit : (n map i : ℕ) → i < n → bit_at map i ≡ 1 → i < bit_length n map
unfolding bit_length
above_bit zero map i lt set = absurd (omega arith)
above_bit (suc n) map i lt set =
    elim (eqb (bit_at map n) 1) as (λ b. eqb (bit_at map n) 1 ≡ b → i < cond b (suc n) (bit_length n map)) [
      | true ↦ λ _. lt
      | false ↦ λ e.
          let other : i ≢ n = λ same. eqb-false (bit_at map n) 1 e (ap (bit_at map) (sym same) ∙ set) in
          above_bit n map i (omega arith) set
    ] refl

top_bit : (n map i : ℕ) → bit_length n map ≡ suc i → (i < n) × (bit_at map i ≡ 1)
unfolding bit_length
top_bit zero map i = λ e. absurd (omega arith)
top_bit (suc n) map i =
    elim (eqb (bit_at map n) 1) as (λ b. eqb (bit_at map n) 1 ≡ b → cond b (suc n) (bit_length n map) ≡ suc i →
    (i < suc n) × (bit_at map i ≡ 1)) [
      | true ↦ λ set e.
          let same : n ≡ i = omega arith in
          (omega arith, ap (bit_at map) (sym same) ∙ eqb-true (bit_at map n) 1 set)
      | false ↦ λ _ e. let t = top_bit n map i e in (omega (arith, t.0), t.1)
    ] refl

-- a bit of two maps stands for a sequence number where each map's highest one does
in_range : (last used map i : ℕ) → i < 64 → last + bit_length 64 used ≤ most_seq → last + bit_length 64 map ≤ most_seq →
    bit_at (bit_or used map) i ≡ 1 → last + suc i ≤ most_seq
in_range last used map i lt own others set =
    let either : max (bit_at used i) (bit_at map i) ≡ 1 = sym (bit_at_or used map i) ∙ set in
    elim (cases_lt (bit_at used i) 1) [
      | inl none ↦
          let one : bit_at map i ≡ 1 = omega arith in
          omega (arith, above_bit 64 map i lt one)
      | inr one ↦
          let one : bit_at used i ≡ 1 = omega (arith, bit_at-lt used i) in
          omega (arith, above_bit 64 used i lt one)
    ]

-- ---- the laws

-- what the map of a window says in version 2
pub map_parts : (version last map : ℕ) → eqb version 1 ≡ false → IsTrue (is_map version last map) →
    (bit_at map 0 ≡ 0) × (last + bit_length 64 map ≤ most_seq)
map_parts version last map e is =
    let both = and_parts (eqb (bit_at map 0) 0) (leb (last + bit_length 64 map) most_seq) (rw e at is) in
    (eqb-true (bit_at map 0) 0 both.0, leb-true (last + bit_length 64 map) most_seq both.1)

-- and in version 1
pub no_map : (version last map : ℕ) → eqb version 1 ≡ true → IsTrue (is_map version last map) → map ≡ 0
no_map version last map e is = eqb-true map 0 (rw e at is)

pub none_used : NoneUsedNoChange
none_used version window is =
    elim (eqb version 1) as (λ b. eqb version 1 ≡ b → cond b (next_gapless window 0) (next_gapped window 0) ≡ window) [
      | true ↦ λ _. refl
      | false ↦ λ e.
          let same : bit_or window.used 0 ≡ window.used = or_zero_r window.used in
          let unset = (map_parts version window.last window.used e is.map).0 in
          let none : low_run 64 (bit_or window.used 0) ≡ 0 =
          ap (low_run 64) same ∙ run_is 64 window.used 0 (omega arith) unset (λ i lt. absurd (omega arith)) in
          let last : window.last + 0 ≡ window.last = omega arith in
          let used : bit_or window.used 0 / 2 ^ 0 ≡ window.used = omega (arith, same) in
          gapped_is window 0 0 none
          ∙ (ap (λ (n : ℕ). record { last = n; used = bit_or window.used 0 / 2 ^ 0 }) last
          ∙ ap (λ (u : ℕ). record { last = window.last; used = u }) used)
    ] refl

-- where no number above the last one is marked, the last one is the greatest that was used
used_below : (window : Window) (seq : ℕ) → window.used ≡ 0 → IsTrue (is_used window seq) → seq ≤ window.last
used_below window seq none is =
    elim (or_cases (nat_le seq window.last) (is_marked window seq) is) [
      | inl le ↦ leb-true seq window.last le
      | inr marked ↦
          let one : bit_at window.used (seq - suc window.last) ≡ 1 = eqb-true _ 1 marked in
          let zero_is : bit_at window.used (seq - suc window.last) ≡ 0 =
          ap (λ (u : ℕ). bit_at u (seq - suc window.last)) none ∙ bit_at-zero (seq - suc window.last) in
          absurd (omega arith)
    ]

gapless_stays : (window : Window) (map seq : ℕ) → window.used ≡ 0 → IsTrue (is_used window seq) →
    IsTrue (is_used (next_gapless window map) seq)
gapless_stays window map seq none is =
    elim (eqb map 0) as (λ b. IsTrue (is_used (cond b window
    (record { last = window.last + bit_length 64 map; used = 0 })) seq)) [
      | true ↦ is
      | false ↦ or_left (nat_le seq (window.last + bit_length 64 map)) _
          (le-leb seq (window.last + bit_length 64 map) (omega (arith, used_below window seq none is)))
    ]

pub used_stays_used : UsedStaysUsed
used_stays_used version window map seq is fits used =
    elim (eqb version 1) as (λ b. eqb version 1 ≡ b →
    IsTrue (is_used (cond b (next_gapless window map) (next_gapped window map)) seq)) [
      | true ↦ λ e. gapless_stays window map seq (no_map version window.last window.used e is.map) used
      | false ↦ λ e. gapped_uses window map seq ∙ or_left (is_used window seq) _ used
    ] refl

gapless_is_window : (version : ℕ) (window : Window) (map : ℕ) → eqb version 1 ≡ true → IsWindow version window →
    window.last + bit_length 64 map ≤ most_seq → IsWindow version (next_gapless window map)
gapless_is_window version window map e is few =
    elim (eqb map 0) as (λ b. IsWindow version (cond b window
    (record { last = window.last + bit_length 64 map; used = 0 }))) [
      | true ↦ is
      | false ↦ record { last = few; fits = omega arith; map = rw e refl }
    ]

gapped_is_window : (version : ℕ) (window : Window) (map : ℕ) → eqb version 1 ≡ false → IsWindow version window →
    map < 2 ^ 64 → window.last + bit_length 64 map ≤ most_seq → IsWindow version (next_gapped window map)
gapped_is_window version window map e is small few =
    let own = (map_parts version window.last window.used e is.map).1 in
    let used : ℕ = bit_or window.used map in
    let run : ℕ = low_run 64 used in
    let fits : used < 2 ^ 64 = or_lt 64 window.used map is.fits small in
    let ranged : (i : ℕ) → i < 64 → bit_at used i ≡ 1 → window.last + suc i ≤ most_seq =
    λ i lt set. in_range window.last window.used map i lt own few set in
    let last : window.last + run ≤ most_seq =
    elim run as (λ r. run ≡ r → window.last + r ≤ most_seq) [
      | zero ↦ λ _. omega (arith, is.last)
      | suc r ↦ λ same. ranged r (omega (arith, low_run_le 64 used)) (run_is_set 64 used r (omega arith))
    ] refl in
    let first : bit_at (used / 2 ^ run) 0 ≡ 0 =
    bit_shifted used run 0 ∙
    elim (cases_lt run 64) [
      | inl shorter ↦ ap (bit_at used) (let n : run + 0 ≡ run = omega arith in n) ∙ run_ends 64 used shorter
      | inr whole ↦ bit_at_above used 64 (run + 0) fits (omega arith)
    ] in
    let top : ℕ = bit_length 64 (used / 2 ^ run) in
    let highest : (window.last + run) + top ≤ most_seq =
    elim top as (λ n. top ≡ n → (window.last + run) + n ≤ most_seq) [
      | zero ↦ λ _. omega arith
      | suc i ↦ λ same.
          let set : bit_at used (run + i) ≡ 1 = sym (bit_shifted used run i) ∙ (top_bit 64 (used / 2 ^ run) i same).1 in
          elim (cases_lt (run + i) 64) [
            | inl within ↦ omega (arith, ranged (run + i) within set)
            | inr above ↦ absurd (omega (arith, bit_at_above used 64 (run + i) fits above))
          ]
    ] refl in
    record {
      last = last;
      fits = omega (arith, shr_le used run);
      map = rw e (and_from (eqb (bit_at (used / 2 ^ run) 0) 0) (leb ((window.last + run) + top) most_seq)
          (eq-eqb (bit_at (used / 2 ^ run) 0) 0 first) (le-leb ((window.last + run) + top) most_seq highest));
    }

pub next_is_window : NextIsWindow
next_is_window version window map is small few =
    elim (eqb version 1) as (λ b. eqb version 1 ≡ b →
    IsWindow version (cond b (next_gapless window map) (next_gapped window map))) [
      | true ↦ λ e. gapless_is_window version window map e is few
      | false ↦ λ e. gapped_is_window version window map e is small few
    ] refl
