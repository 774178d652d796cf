-- What it does to a table of places to enter an id.
use Rattle.std.proofs.Common.{◌≡◌, ◌≢◌, ℕ, zero, suc, ◌+◌, ◌-◌, ◌*◌, ◌/◌, ◌<◌, ◌≤◌, List, length, get_or, set}
use Rattle.std.proofs.Common.{Some, inl, inr, sym, subst, arith}
use Rattle.std.specs.Prelude.{slice_get}
use Rattle.std.specs.List.Sorted.{IsStrictlyIncreasing}
use Rattle.std.proofs.lemmas.Bool.{cases_lt, cases_eq}
use Rattle.std.proofs.lemmas.List.{get_or-set_same, get_or-set_other, length-set}
use Rattle.std.proofs.lemmas.Option.{slice_get-get_or}

-- numbers that rise lie apart by as much as their places
pub rises_by : (xs : List ℕ) → IsStrictlyIncreasing xs → (i k : ℕ) → i + k < length xs
    → get_or xs i 0 + k ≤ get_or xs (i + k) 0
rises_by xs up i zero lt =
    let same : i + 0 ≡ i = omega arith in
    rw same (omega arith)
rises_by xs up i (suc k) lt =
    let before : get_or xs i 0 + k ≤ get_or xs (i + k) 0 = rises_by xs up i k (omega arith) in
    let step : get_or xs (i + k) 0 < get_or xs (i + k + 1) 0 = up (i + k) (omega arith) in
    let same : i + suc k ≡ i + k + 1 = omega arith in
    rw same (omega arith)

-- the same by the two places
pub rises_between : (xs : List ℕ) → IsStrictlyIncreasing xs → (i j : ℕ) → i ≤ j → j < length xs
    → get_or xs i 0 + (j - i) ≤ get_or xs j 0
rises_between xs up i j le lt =
    let same : i + (j - i) ≡ j = omega arith in
    let far : get_or xs i 0 + (j - i) ≤ get_or xs (i + (j - i)) 0 = rises_by xs up i (j - i) (omega arith) in
    rw same at far

-- the ids from where a block starts are not below it
abbrev pub AreLate : List ℕ → ℕ → List ℕ → Type 0
AreLate xs first starts =
    (b k : ℕ) → b < length starts → get_or starts b 0 ≤ k → k < length xs → first + 128 * b ≤ get_or xs k 0

-- blocks start at a place or before it
abbrev pub AreEarly : ℕ → List ℕ → Type 0
AreEarly place starts = (b : ℕ) → b < length starts → get_or starts b 0 ≤ place

-- starts that others were added to
abbrev pub AreKept : List ℕ → List ℕ → Type 0
AreKept old new = (b : ℕ) → b < length old → get_or new b 0 ≡ get_or old b 0

-- and those that were added, up to a block
abbrev pub AreHere : ℕ → ℕ → List ℕ → List ℕ → Type 0
AreHere place block old new =
    (b : ℕ) → length old ≤ b → b < length new → (get_or new b 0 ≡ place) × (b ≤ block)

module _ (xs : List ℕ) (up : IsStrictlyIncreasing xs) (place first far : ℕ) (lt : place < length xs) (is : first + far ≡ get_or xs place 0) (old new : List ℕ) (kept : AreKept old new) (here : AreHere place (far / 128) old new) where
  pub still_early : AreEarly place old → AreEarly place new
  still_early early b within =
      elim (cases_lt b (length old)) [
        | inl before ↦ rw (kept b before) (early b before)
        | inr after ↦ rw (here b after within).0 (omega arith)
      ]

  pub still_late : AreLate xs first old → AreLate xs first new
  still_late late b k within le inside =
      elim (cases_lt b (length old)) [
        | inl before ↦ late b k before (rw (kept b before) at le) inside
        | inr after ↦ let added = here b after within in
            let from : place ≤ k = rw added.0 at le in
            let rise : get_or xs place 0 + (k - place) ≤ get_or xs k 0 = rises_between xs up place k from inside in
            omega (arith, is, added.1)
      ]

-- so few ids of a block come before one of its ids
pub few_before : (xs : List ℕ) → IsStrictlyIncreasing xs → (place first far start : ℕ) → place < length xs
    → first + far ≡ get_or xs place 0 → start ≤ place → first + 128 * (far / 128) ≤ get_or xs start 0
    → place - start + 1 ≤ 128
few_before xs up place first far start lt is le from =
    let rise : get_or xs start 0 + (place - start) ≤ get_or xs place 0 = rises_between xs up start place le lt in
    omega arith

-- what has a count keeps one
pub still_counted : (counts : List ℕ) (far v : ℕ) → far < length counts → v ≢ 0 → (i : ℕ) → get_or counts i 0 ≢ 0
    → get_or (set counts far v) i 0 ≢ 0
still_counted counts far v lt some i was =
    elim (cases_eq i far) [
      | inl same ↦ rw (same, get_or-set_same counts far v 0 lt) some
      | inr other ↦ rw (get_or-set_other counts far i v 0 other) was
    ]

-- what a count tells of a number, by the starts of the blocks
abbrev pub Tells : List ℕ → ℕ → List ℕ → List ℕ → ℕ → Type 0
Tells xs first counts starts i =
    (i / 128 < length starts)
    × (slice_get xs (get_or starts (i / 128) 0 + get_or counts i 0 - 1) ≡ Some (first + i))

module _ (xs : List ℕ) (place first far : ℕ) (lt : place < length xs) (is : first + far ≡ get_or xs place 0) (counts old new : List ℕ) (in_table : far < length counts) (started : far / 128 < length new) (longer : length old ≤ length new) (kept : AreKept old new) (below : get_or new (far / 128) 0 ≤ place) where
  abbrev pub count : ℕ
  count = place - get_or new (far / 128) 0 + 1

  pub told_here : Tells xs first (set counts far count) new far
  told_here =
      let at : get_or new (far / 128) 0 + count - 1 ≡ place = omega (arith, below) in
      let read : slice_get xs place ≡ Some (get_or xs place 0) = slice_get-get_or xs place 0 lt in
      (started, rw (get_or-set_same counts far count 0 in_table, at, is) read)

  pub told_other : (i : ℕ) → (i ≡ far → ⊥) → Tells xs first counts old i → Tells xs first (set counts far count) new i
  told_other i other (within, tells) =
      (omega (arith, within, longer), rw (get_or-set_other counts far i count 0 other, kept (i / 128) within) tells)

  pub still_told : ((i : ℕ) → i < length counts → get_or counts i 0 ≢ 0 → Tells xs first counts old i)
      → (i : ℕ) → i < length (set counts far count) → get_or (set counts far count) i 0 ≢ 0
      → Tells xs first (set counts far count) new i
  still_told told i within some =
      elim (cases_eq i far) [
        | inl same ↦ subst (Tells xs first (set counts far count) new) (sym same) told_here
        | inr other ↦ let long : i < length counts = rw (length-set counts far count) at within in
            told_other i other (told i long (rw (get_or-set_other counts far i count 0 other) at some))
      ]

  pub still_held : ((k : ℕ) → k < place → get_or xs k 0 - first < length counts → get_or counts (get_or xs k 0 - first) 0 ≢ 0)
      → (k : ℕ) → k < place + 1 → get_or xs k 0 - first < length (set counts far count)
      → get_or (set counts far count) (get_or xs k 0 - first) 0 ≢ 0
  still_held held k before within =
      let some : count ≢ 0 = λ e. omega (arith, e) in
      elim (cases_eq k place) [
        | inl same ↦ let at : get_or xs place 0 - first ≡ far = omega (arith, is) in
            rw (same, at, get_or-set_same counts far count 0 in_table) some
        | inr other ↦ let long : get_or xs k 0 - first < length counts = rw (length-set counts far count) at within in
            still_counted counts far count in_table some (get_or xs k 0 - first)
            (held k (omega (arith, other)) long)
      ]
