-- The units of entries together: with one entry more, and of the first ones of a list.
use Rattle.std.proofs.Common.{◌≡◌, ℕ, ◌+◌, ◌<◌, ◌≤◌, List, [], ◌∷◌, ◌++◌, length, get_or, take, refl, ap, ◌∙◌, arith}
use Rattle.std.proofs.lemmas.Bool.{eq-eqb}
use Rattle.std.proofs.lemmas.List.{take_more}
use Rattle.std.proofs.lemmas.List.Sums.{sum_by-append, sum_by-take-drop}
use Rattle.sx_tally.specs.declared.entry.Entry.{Entry}
use Rattle.sx_tally.specs.Postings.{units_at, units_in}

pub units_more : (entries : List Entry) (entry : Entry) (p x : ℕ)
    → units_in (entries ++ entry ∷ []) p x ≡ units_in entries p x + units_at entry p x
units_more entries entry p x = omega (arith, sum_by-append (λ entry. units_at entry p x) entries (entry ∷ []))

-- the units of one entry more from the front of a list
pub units_step : (entries : List Entry) (k : ℕ) (entry : Entry) (p x : ℕ) → k < length entries
    → units_in (take (k + 1) entries) p x ≡ units_in (take k entries) p x + units_at (get_or entries k entry) p x
units_step entries k entry p x lt =
    ap (λ (xs : List Entry). units_in xs p x) (take_more entries k entry lt)
    ∙ units_more (take k entries) (get_or entries k entry) p x

-- entries from the front have no more than all
pub units_of_part : (entries : List Entry) (k p x : ℕ) → units_in (take k entries) p x ≤ units_in entries p x
units_of_part entries k p x = omega (arith, sum_by-take-drop (λ entry. units_at entry p x) entries k)

-- an entry has its amount at its own place and asset
pub own_units : (entry : Entry) → units_at entry entry.place entry.asset ≡ entry.amount
own_units entry = rw (eq-eqb entry.place entry.place refl, eq-eqb entry.asset entry.asset refl) refl

-- where all entries have room, the next one has it beside those before
pub room_for_next : (entries : List Entry) (k : ℕ) (entry : Entry) (before limit : ℕ) → k < length entries
    → entry ≡ get_or entries k entry → before + units_in entries entry.place entry.asset < limit
    → before + units_in (take k entries) entry.place entry.asset + entry.amount < limit
room_for_next entries k entry before limit lt is room =
    let p = entry.place in
    let x = entry.asset in
    omega (
      arith,
      units_step entries k entry p x lt,
      ap (λ (e : Entry). units_at e p x) is,
      own_units entry,
      units_of_part entries (k + 1) p x,
    )
