-- What a step does to its word, and what stays true of the words that notes tell of.
use Rattle.std.proofs.Common.{◌≡◌, ℕ, ◌-◌, ◌^◌, ◌<◌, ◌≤◌, true, cond, eqb, max, List, length, get_or, set, refl, sym}
use Rattle.std.proofs.Common.{ap, inl, inr, arith, get_or-set_same, get_or-set_other, ◌∙◌, Option, Some, None}
use Rattle.std.specs.Prelude.{slice_index, bit_or, IsSomeAnd}
use Rattle.std.specs.Int.{bit_at}
use Rattle.std.proofs.lemmas.Bool.{cases_lt, cases_eq, eqb-true, eq-eqb, ne_eqb}
use Rattle.std.proofs.lemmas.List.{set-get_or, set_past}
use Rattle.std.proofs.lemmas.Nat.Bits.{bit_at_or, bit_at-pow_same, bit_at-pow_other, bit_at-lt, same_from_bits}
use Rattle.sx_event.specs.declared.marks.Claim.TheVariants.{Bit}
use Rattle.sx_event.specs.declared.marks.Note.{Note}
use Rattle.sx_event.specs.declared.marks.Note.TheVariants.{Low, Set}
use Rattle.sx_event.specs.View.{View}
use Rattle.sx_event.specs.Step.{word_after_claim, is_as_seen}
use Rattle.sx_event.specs.Rule.{bit_in, LowFits, LowsFit, SetFits, SetsFit}

-- one bit of a word that was or-ed with one bit
or_one : (x bit b : ℕ) → bit_at (bit_or x (2 ^ bit)) b ≡ max (bit_at x b) (cond (eqb bit b) 1 0)
or_one x bit b = elim (cases_eq bit b) [
  | inl same ↦ rw (eq-eqb bit b same)
      (bit_at_or x (2 ^ bit) b ∙ ap (λ y. max (bit_at x b) y) (rw same (bit_at-pow_same b)))
  | inr apart ↦ rw (ne_eqb bit b apart)
      (bit_at_or x (2 ^ bit) b ∙ ap (λ y. max (bit_at x b) y) (bit_at-pow_other bit b (λ e. apart (sym e))))
]

-- each bit after a Claim
pub bit_after : (bits : List ℕ) (word bit w b : ℕ) → word < length bits
    → bit_at (slice_index (set bits word (word_after_claim bit (slice_index bits word))) w) b ≡ max
    (bit_at (slice_index bits w) b) (bit_in w b (Bit word bit))
bit_after bits word bit w b lt = elim (cases_eq word w) [
  | inl same ↦
      let at : slice_index (set bits word (bit_or (slice_index bits word) (2 ^ bit))) w ≡ bit_or
      (slice_index bits w) (2 ^ bit) =
      rw (← same) (get_or-set_same bits word (bit_or (slice_index bits word) (2 ^ bit)) 0 lt) in
      rw (at, eq-eqb word w same) (or_one (slice_index bits w) bit b)
  | inr apart ↦
      let at : slice_index (set bits word (bit_or (slice_index bits word) (2 ^ bit))) w ≡ slice_index bits w =
      get_or-set_other bits word w (bit_or (slice_index bits word) (2 ^ bit)) 0 (λ e. apart (sym e)) in
      rw (at, ne_eqb word w apart) (omega arith)
]

-- a Claim of a bit that is set changes no word
pub set_stays : (bits : List ℕ) (word bit : ℕ) → bit_at (slice_index bits word) bit ≡ 1
    → set bits word (word_after_claim bit (slice_index bits word)) ≡ bits
set_stays bits word bit is =
    let x = slice_index bits word in
    let same : bit_or x (2 ^ bit) ≡ x = same_from_bits (bit_or x (2 ^ bit)) x
    (λ b. or_one x bit b ∙ elim (cases_eq bit b) [
      | inl at ↦ rw (eq-eqb bit b at) (let here : bit_at x b ≡ 1 = rw (← at) is in rw here refl)
      | inr apart ↦ rw (ne_eqb bit b apart) (omega arith)
    ]) in
    rw same (set-get_or bits word 0)

-- a purse after a lost Take is what it was
pub found_stays : (purses : List ℕ) (purse : ℕ) → set purses purse (slice_index purses purse) ≡ purses
found_stays purses purse = set-get_or purses purse 0

-- no purse is raised by taking from one
pub taken_falls : (purses : List ℕ) (purse found need other : ℕ) → found ≡ slice_index purses purse
    → slice_index (set purses purse (found - need)) other ≤ slice_index purses other
taken_falls purses purse found need other is = elim (cases_eq other purse) [
  | inl same ↦ elim (cases_lt purse (length purses)) [
    | inl lt ↦ rw (same, get_or-set_same purses purse (found - need) 0 lt) (omega arith)
    | inr past ↦ rw (set_past purses purse (found - need) past) (omega arith)
  ]
  | inr apart ↦ rw (get_or-set_other purses purse other (found - need) 0 apart) (omega arith)
]

-- a Take that is won finds what was seen, and so its need
pub won_covers : (seen : Option ℕ) (found need : ℕ) → IsSomeAnd seen (λ value. need ≤ value) →
    is_as_seen seen found ≡ true → need ≤ found
won_covers None found need noted same = absurd noted
won_covers (Some value) found need noted same = omega (arith, eqb-true found value same)

-- where purses fall, what Low notes tell stays true
pub lows_stay : (opening old new : List ℕ) (views : List View) →
    ((purse : ℕ) → slice_index new purse ≤ slice_index old purse)
    → LowsFit opening old views → LowsFit opening new views
lows_stay opening old new views falls fits =
    λ k d lt i e in'. low_stays (get_or (get_or views k d).notes i e) (fits k d lt i e in')
  where
    low_stays : (note : Note) → LowFits opening old note → LowFits opening new note
    low_stays (Low purse value) fit = (omega (arith, falls purse, fit.0), fit.1)
    low_stays (Set word bit) fit = tt

-- where bits are gained, what Set notes tell stays true
pub sets_stay : (old new : List ℕ) (views : List View) →
    ((word bit : ℕ) → bit_at (slice_index old word) bit ≤ bit_at (slice_index new word) bit)
    → SetsFit old views → SetsFit new views
sets_stay old new views gains fits =
    λ k d lt i e in'. set_stays' (get_or (get_or views k d).notes i e) (fits k d lt i e in')
  where
    set_stays' : (note : Note) → SetFits old note → SetFits new note
    set_stays' (Low purse value) fit = tt
    set_stays' (Set word bit) fit = omega (arith, gains word bit, bit_at-lt (slice_index new word) bit, fit)
