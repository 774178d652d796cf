-- Reading turns one by one, and testing all their bytes at once.
use Rattle.std.proofs.Common.{◌≡◌, ℕ, zero, suc, ◌+◌, ◌-◌, ◌*◌, ◌<◌, ◌≤◌, min, leb, ltb, List, [], ◌∷◌, length, take}
use Rattle.std.proofs.Common.{drop, Option, None, Some, Result, Ok, Err, refl, sym, ap, subst, ◌∙◌, arith, inl, inr}
use Rattle.std.specs.List.{position_from}
use Rattle.std.proofs.lemmas.Bool.{cases_lt, lt-ltb, le-ltb, lt-leb, le-leb}
use Rattle.std.proofs.lemmas.List.{drop-drop, length-take, take_min}
use Rattle.sx_bytes.specs.declared.fault.Form.TheVariants as form
use Rattle.sx_bytes.specs.declared.fault.FormFault.{FormFault}
use Rattle.sx_bytes.specs.Cursor.{Cursor, rest, left, moved, raw_at, uint_at}
use Rattle.sx_bytes.specs.Grammar.{◌>>=◌, or_fault, many_at}
use Rattle.sx_bytes.proofs.Grammar.{guard_short, length-rest}
use Rattle.sx_outcome.specs.ScriptDecoding.{turn_at}

-- ---- one turn

-- a byte is there
number_is : (c : Cursor) (x : ℕ) (xs : List ℕ) → rest c ≡ x ∷ xs → uint_at 1 c ≡ Ok (x, moved 1 c)
number_is c x xs e =
    let some : 1 ≤ left c = omega (arith, length-rest c, ap length e) in
    rw (le-ltb (left c) 1 some, e) (ap (λ (n : ℕ). Ok (n, moved 1 c)) (let n : x * 1 + 0 ≡ x = omega arith in n))

turn_is : (a : ℕ) (c : Cursor) (x : ℕ) (xs : List ℕ) → rest c ≡ x ∷ xs → x < a → turn_at a c ≡ Ok (x, moved 1 c)
unfolding turn_at
turn_is a c x xs e below = rw (number_is c x xs e, lt-ltb x a below) refl

turn_beyond : (a : ℕ) (c : Cursor) (x : ℕ) (xs : List ℕ) → rest c ≡ x ∷ xs → a ≤ x
    → turn_at a c ≡ Err (record { at = c.place; fault = form.Actor })
unfolding turn_at
turn_beyond a c x xs e beyond = rw (number_is c x xs e, le-ltb x a beyond) refl

turn_short : (a : ℕ) (c : Cursor) → rest c ≡ [] → turn_at a c ≡ Err (record { at = length c.bytes; fault = form.Short })
unfolding turn_at
turn_short a c e =
    let none : left c < 1 = omega (arith, length-rest c, ap length e) in
    rw (lt-ltb (left c) 1 none) refl

rest_moved : (c : Cursor) (x : ℕ) (xs : List ℕ) → rest c ≡ x ∷ xs → rest (moved 1 c) ≡ xs
rest_moved c x xs e = sym (drop-drop 1 c.place c.bytes) ∙ ap (drop 1) e

-- ---- all turns

abbrev no_turn : ℕ → Result (List ℕ × Cursor) FormFault
no_turn at = Err (record { at = at; fault = form.Actor })

abbrev too_few : ℕ → Result (List ℕ × Cursor) FormFault
too_few at = Err (record { at = at; fault = form.Short })

-- what reading n turns one by one gives, told by the first of their bytes that is no turn, its place counted from i
abbrev pub Tells : ℕ → ℕ → ℕ → Cursor → Option ℕ → Type 0
Tells a n i c None = many_at (turn_at a) n c ≡ or_fault (raw_at n c)
Tells a n i c (Some k) = (i ≤ k) × (many_at (turn_at a) n c ≡ no_turn (c.place + (k - i)))

-- one more turn in front, where enough bytes are left or not
raw_more : (n : ℕ) (c : Cursor) (x : ℕ) (xs : List ℕ) → rest c ≡ x ∷ xs
    → (or_fault (raw_at n (moved 1 c)) >>= λ others. Ok (x ∷ others.0, others.1)) ≡ or_fault (raw_at (suc n) c)
raw_more n c x xs e =
    let some : 1 ≤ left c = omega (arith, length-rest c, ap length e) in
    elim (cases_lt (left (moved 1 c)) n) [
      | inl lt ↦ rw (lt-ltb (left (moved 1 c)) n lt, lt-ltb (left c) (suc n) (omega arith)) refl
      | inr le ↦
          let place : c.place + 1 + n ≡ c.place + suc n = omega arith in
          let turns : x ∷ take n (rest (moved 1 c)) ≡ take (suc n) (rest c) =
          ap (λ (ys : List ℕ). x ∷ take n ys) (rest_moved c x xs e) ∙ ap (take (suc n)) (sym e) in
          rw (le-ltb (left (moved 1 c)) n le, le-ltb (left c) (suc n) (omega arith))
          (ap (λ (ys : List ℕ). Ok (ys, moved n (moved 1 c))) turns
          ∙ ap (λ (p : ℕ). Ok (take (suc n) (rest c), record { bytes = c.bytes; place = p })) place)
    ]

more : (a n i : ℕ) (c : Cursor) (x : ℕ) (xs : List ℕ) (o : Option ℕ) → rest c ≡ x ∷ xs → x < a
    → Tells a n (i + 1) (moved 1 c) o → Tells a (suc n) i c o
unfolding many_at
more a n i c x xs None e below told = rw (turn_is a c x xs e below, told) (raw_more n c x xs e)
more a n i c x xs (Some k) e below told =
    let place : c.place + 1 + (k - (i + 1)) ≡ c.place + (k - i) = omega (arith, told.0) in (
      omega (arith, told.0),
      rw (turn_is a c x xs e below, told.1) (ap no_turn place),
    )

-- what is told of n turns from any place, for one more
step : (a n i : ℕ) (c : Cursor) (text : List ℕ) → rest c ≡ text → c.place ≤ length c.bytes
    → ((d : Cursor) → d.place ≤ length d.bytes → Tells a n (i + 1) d (position_from (leb a) (i + 1) (take n (rest d))))
    → Tells a (suc n) i c (position_from (leb a) i (take (suc n) text))
unfolding many_at
step a n i c [] e within told =
    let none : left c < suc n = omega (arith, length-rest c, ap length e) in
    rw (turn_short a c e, lt-ltb (left c) (suc n) none) refl
step a n i c (x ∷ xs) e within told =
    let some : 1 ≤ left c = omega (arith, length-rest c, ap length e) in
    elim (cases_lt x a) [
      | inl below ↦
          let others : Tells a n (i + 1) (moved 1 c) (position_from (leb a) (i + 1) (take n xs)) =
          subst (λ (ys : List ℕ). Tells a n (i + 1) (moved 1 c) (position_from (leb a) (i + 1) (take n ys)))
          (rest_moved c x xs e) (told (moved 1 c) (omega arith)) in
          rw (lt-leb a x below) (more a n i c x xs (position_from (leb a) (i + 1) (take n xs)) e below others)
      | inr beyond ↦
          let place : c.place ≡ c.place + (i - i) = omega arith in
          rw (le-leb a x beyond) (
            omega arith,
            rw (turn_beyond a c x xs e beyond) (ap no_turn place),
          )
    ]

pub turns_told : (a n i : ℕ) (c : Cursor) → c.place ≤ length c.bytes
    → Tells a n i c (position_from (leb a) i (take n (rest c)))
unfolding many_at
turns_told a zero i c within =
    let place : c.place ≡ c.place + 0 = omega arith in
    rw (le-ltb (left c) 0 (omega arith)) (ap (λ (p : ℕ). Ok ([], record { bytes = c.bytes; place = p })) place)
turns_told a (suc n) i c within = step a n i c (rest c) refl within (λ d h. turns_told a n (i + 1) d h)

-- ---- what a call answers that takes the bytes that are there, n of them at most

pub record AreThere (n : ℕ) (c : Cursor) (turns : List ℕ) (next : Cursor) : Type 0 where
  pub front : turns ≡ take n (rest c)
  pub after : next ≡ moved (length turns) c
  pub count : length turns ≡ min (left c) n

pub are_there : (n m : ℕ) (c next : Cursor) (turns : List ℕ) → m ≡ min (left c) n → raw_at m c ≡ Ok (turns, next)
    → AreThere n c turns next
are_there n m c next turns few e =
    let few_left = ltb (left c) m in
    let g = guard_short few_left (record { at = length c.bytes }) (take m (rest c), moved m c) (turns, next) e in
    let first : take m (rest c) ≡ turns = ap (λ (y : List ℕ × Cursor). y.0) g.1 in
    let long : length turns ≡ m = ap length (sym first) ∙ omega (arith, length-take m (rest c), length-rest c, few) in
    let least : m ≡ min n (length (rest c)) = omega (arith, length-rest c, few) in
    record {
      front = sym first ∙ ap (λ (k : ℕ). take k (rest c)) least ∙ take_min n (rest c);
      after = sym (ap (λ (y : List ℕ × Cursor). y.1) g.1) ∙ ap (λ (k : ℕ). moved k c) (sym long);
      count = long ∙ few;
    }

told_of : (a n : ℕ) (c next : Cursor) (turns : List ℕ) (o : Option ℕ) → c.place ≤ length c.bytes
    → AreThere n c turns next → o ≡ position_from (leb a) 0 turns → Tells a n 0 c o
told_of a n c next turns o within there e =
    subst (Tells a n 0 c) (ap (position_from (leb a) 0) (sym there.front) ∙ sym e) (turns_told a n 0 c within)

-- a byte that is no turn
pub beyond_is : (a n k : ℕ) (c next : Cursor) (turns : List ℕ) → c.place ≤ length c.bytes → AreThere n c turns next
    → Some k ≡ position_from (leb a) 0 turns → many_at (turn_at a) n c ≡ no_turn (c.place + k)
beyond_is a n k c next turns within there e =
    (told_of a n c next turns (Some k) within there e).1
    ∙ ap no_turn (let place : c.place + (k - 0) ≡ c.place + k = omega arith in place)

-- too few bytes
pub short_is : (a n : ℕ) (c next : Cursor) (turns : List ℕ) → c.place ≤ length c.bytes → AreThere n c turns next
    → None ≡ position_from (leb a) 0 turns → length turns < n → many_at (turn_at a) n c ≡ too_few next.place
short_is a n c next turns within there e few =
    let place : length c.bytes ≡ next.place = omega (arith, there.count, ap (λ (d : Cursor). d.place) there.after) in
    told_of a n c next turns None within there e
    ∙ rw (lt-ltb (left c) n (omega (arith, there.count))) (ap too_few place)

-- all of them
pub turns_are : (a n : ℕ) (c next : Cursor) (turns : List ℕ) → c.place ≤ length c.bytes → AreThere n c turns next
    → None ≡ position_from (leb a) 0 turns → n ≤ length turns → many_at (turn_at a) n c ≡ Ok (turns, next)
turns_are a n c next turns within there e enough =
    let all : length turns ≡ n = omega (arith, there.count) in
    told_of a n c next turns None within there e
    ∙ rw (le-ltb (left c) n (omega (arith, there.count)))
    (ap (λ (ts : List ℕ). Ok (ts, moved n c)) (sym there.front)
    ∙ ap (λ (d : Cursor). Ok (turns, d)) (ap (λ (k : ℕ). moved k c) (sym all) ∙ sym there.after))
