-- The units that entries add to a sum: those of the first ones of a list, and with one entry more.
use Rattle.std.proofs.Common.{◌≡◌, ℕ, zero, suc, ◌+◌, ◌<◌, ◌≤◌, ◌==◌, ◌^◌, Bool, true, false, cond, List, [], ◌∷◌, length}
use Rattle.std.proofs.Common.{get_or, set, take, inl, inr, sym, ap, ◌∙◌, arith}
use Rattle.std.proofs.lemmas.Bool.{cases_eq, cases_lt, eq-eqb, ne_eqb}
use Rattle.std.proofs.lemmas.Grind.{get_or-set_at}
use Rattle.std.proofs.lemmas.List.{get_or-set_other, get_or_past}
use Rattle.std.proofs.lemmas.List.Sums.{sum_by-cons}
use Rattle.sx_tally.specs.declared.entry.Entry.{Entry}
use Rattle.sx_tally.specs.Sums.{AreSumsAfter, CanAdd, amounts_of, index_at, units_to}

step : (entries : List Entry) (rows : List ℕ) (k : ℕ) (entry : Entry) (at : ℕ) → length rows ≡ length entries
    → k < length entries
    → units_to (take (suc k) entries) (take (suc k) rows) at
    ≡ units_to (take k entries) (take k rows) at
    + cond (index_at entries rows k entry == at) (get_or entries k entry).amount 0
step [] rows k entry at same lt = absurd (omega arith)
step (one ∷ entries) [] k entry at same lt = absurd (omega arith)
step (one ∷ entries) (row ∷ rows) zero entry at same lt = omega arith
step (one ∷ entries) (row ∷ rows) (suc k) entry at same lt =
    omega (arith, step entries rows k entry at (omega arith) (omega arith))

-- one entry more from the front of a list
pub units_to_more : (entries : List Entry) (rows : List ℕ) (k : ℕ) (entry : Entry) (at : ℕ)
    → length rows ≡ length entries → k < length entries
    → units_to (take (k + 1) entries) (take (k + 1) rows) at
    ≡ units_to (take k entries) (take k rows) at
    + cond (index_at entries rows k entry == at) (get_or entries k entry).amount 0
units_to_more entries rows k entry at same lt =
    let next : k + 1 ≡ suc k = omega arith in
    rw next (step entries rows k entry at same lt)

-- entries from the front add no more than all
pub units_to_part : (entries : List Entry) (rows : List ℕ) (k at : ℕ)
    → units_to (take k entries) (take k rows) at ≤ units_to entries rows at
units_to_part entries rows zero at = omega arith
units_to_part [] rows (suc k) at = omega arith
units_to_part (one ∷ entries) [] (suc k) at = omega arith
units_to_part (one ∷ entries) (row ∷ rows) (suc k) at = omega (arith, units_to_part entries rows k at)

at_most : (b : Bool) (x : ℕ) → cond b x 0 ≤ x
at_most true x = omega arith
at_most false x = omega arith

-- entries add no more to a sum than their amounts together
pub units_to_amounts : (entries : List Entry) (rows : List ℕ) (at : ℕ) → units_to entries rows at ≤ amounts_of entries
units_to_amounts [] rows at = omega arith
units_to_amounts (one ∷ entries) [] at = omega arith
units_to_amounts (one ∷ entries) (row ∷ rows) at =
    omega (
      arith,
      at_most (row + one.asset == at) one.amount,
      sum_by-cons (λ (e : Entry). e.amount) one entries,
      units_to_amounts entries rows at,
    )

module _ (entries : List Entry) (rows : List ℕ) (k : ℕ) (entry : Entry) (same : length rows ≡ length entries)
    (lt : k < length entries) (own : entry ≡ get_or entries k entry) (at : ℕ)
    (at_is : at ≡ get_or rows k 0 + entry.asset) where
  pub index_is : index_at entries rows k entry ≡ at
  index_is = omega (arith, ap (λ (e : Entry). e.asset) own)

  -- where all entries have room, the next one has it beside those before
  pub room_in_sum : (before limit : ℕ) → before + units_to entries rows at < limit
      → before + units_to (take k entries) (take k rows) at + entry.amount < limit
  room_in_sum before limit room =
      let more : units_to (take (k + 1) entries) (take (k + 1) rows) at
      ≡ units_to (take k entries) (take k rows) at + (get_or entries k entry).amount =
      rw (eq-eqb (index_at entries rows k entry) at index_is) at (units_to_more entries rows k entry at same lt) in
      omega (arith, more, ap (λ (e : Entry). e.amount) own, units_to_part entries rows (k + 1) at)

  -- the sums with one entry more
  pub sum_more : (before sums : List ℕ) (after : ℕ) → length sums ≡ length before → at < length before
      → ((j : ℕ) → j < length before
      → get_or sums j 0 ≡ get_or before j 0 + units_to (take k entries) (take k rows) j)
      → after ≡ get_or sums at 0 + entry.amount → (j : ℕ) → j < length before
      → get_or (set sums at after) j 0 ≡ get_or before j 0 + units_to (take (k + 1) entries) (take (k + 1) rows) j
  sum_more before sums after as_many within each after_is j j_there =
      let more = units_to_more entries rows k entry j same lt in
      elim (cases_eq j at) [
        | inl here ↦
            let test = eq-eqb (index_at entries rows k entry) j (index_is ∙ sym here) in
            let added : units_to (take (k + 1) entries) (take (k + 1) rows) j
            ≡ units_to (take k entries) (take k rows) j + (get_or entries k entry).amount = rw test at more in
            omega (
              arith,
              get_or-set_at sums at j after 0 here (omega arith),
              added,
              each j j_there,
              ap (λ (i : ℕ). get_or sums i 0) here,
              ap (λ (e : Entry). e.amount) own,
            )
        | inr other ↦
            let test = ne_eqb (index_at entries rows k entry) j (λ e. other (sym e ∙ index_is)) in
            let added : units_to (take (k + 1) entries) (take (k + 1) rows) j
            ≡ units_to (take k entries) (take k rows) j + 0 = rw test at more in
            omega (arith, get_or-set_other sums at j after 0 other, added, each j j_there)
      ]

-- where the sums take 8 bytes, and have room for all amounts together
module _ (entries : List Entry) (rows : List ℕ) (added : ℕ) (sums : List ℕ)
    (room : (at : ℕ) → get_or sums at 0 + amounts_of entries ≤ added) where
  pub can_add_narrow : (limit : ℕ) → CanAdd limit entries rows sums → added < 2 ^ 64
      → CanAdd (2 ^ 64) entries rows sums
  can_add_narrow limit can small = record {
    one_each = can.one_each;
    within = can.within;
    fits = λ k entry lt.
        let at = index_at entries rows k entry in
        omega (arith, room at, units_to_amounts entries rows at);
  }

  pub still_within : (after : List ℕ) → AreSumsAfter entries rows sums after → (at : ℕ) → get_or after at 0 + 0 ≤ added
  still_within after is at = elim (cases_lt at (length sums)) [
    | inl within ↦ omega (arith, is.each at within, room at, units_to_amounts entries rows at)
    | inr beyond ↦ omega (arith, get_or_past after at 0 (omega (arith, is.as_many)))
  ]
