-- Cases worked out by hand: what the words of the specs compute, and what they have to refuse.
use Rattle.std.proofs.Common.{◌≡◌, ℕ, true, false, ltb, List, [], ◌∷◌, None, Result, Ok, Err, refl, ap, arith}
use Rattle.sx_bytes.specs.declared.fault.Form.TheVariants as form
use Rattle.sx_bytes.specs.declared.fault.FormFault.{FormFault}
use Rattle.sx_bytes.specs.declared.fault.ReadError.TheVariants as read_error
use Rattle.sx_bytes.specs.Field.{AreBytes}
use Rattle.sx_bytes.specs.Cursor.{Cursor, moved, Decodes}
use Rattle.sx_bytes.specs.Grammar.{between, field_at, many_at, Fails, Gives, MayDecode, in_order, ordered_at}
use Rattle.sx_bytes.specs.Written.{Begins}

abbrev start : List ℕ → Cursor
start bytes = record { bytes = bytes; place = 0 }

-- a digit in one byte
abbrev digit : Cursor → Result (ℕ × Cursor) FormFault
digit = field_at 1 (between 0 9) form.Tag

abbrev fault : FormFault
fault = record { at = 1; fault = form.Tag }

-- ---- decoding

digits : many_at digit 2 (start (0 ∷ 9 ∷ 5 ∷ [])) ≡ Ok (0 ∷ 9 ∷ [], moved 2 (start (0 ∷ 9 ∷ 5 ∷ [])))
unfolding many_at
digits = refl

no_digit : many_at digit 2 (start (1 ∷ 10 ∷ [])) ≡ Err fault
unfolding many_at
no_digit = refl

too_short : many_at digit 2 (start (1 ∷ [])) ≡ Err (record { at = 1; fault = form.Short })
unfolding many_at
too_short = refl

ordered : ordered_at digit ltb form.Order 2 None (start (1 ∷ 2 ∷ [])) ≡ Ok (1 ∷ 2 ∷ [], moved 2 (start (1 ∷ 2 ∷ [])))
unfolding ordered_at
ordered = refl

not_ordered : ordered_at digit ltb form.Order 2 None (start (2 ∷ 2 ∷ [])) ≡ Err (record { at = 1; fault = form.Order })
unfolding ordered_at
not_ordered = refl

rising : in_order ltb None (1 ∷ 2 ∷ 3 ∷ []) ≡ true
rising = refl

not_rising : in_order ltb None (1 ∷ 3 ∷ 2 ∷ []) ≡ false
not_rising = refl

-- ---- what calls may answer

other_fault : Fails {Y = ℕ} (read_error.Form fault) (Ok 3) → ⊥
other_fault e = absurd cc

other_value : Gives (λ (x : ℕ). x) (Ok 3) (Ok 4) → ⊥
other_value e = absurd cc

refusal_moves : Decodes (λ (x : ℕ). x) (Err fault) (start []) (moved 1 (start [])) (Err fault) → ⊥
refusal_moves e = let place = ap (λ (c : Cursor). c.place) e.1 in omega (arith, place)

no_memory_moves :
    MayDecode (λ (x : ℕ). x) (Ok (3, start [])) (start []) (moved 1 (start [])) (Err read_error.NoMemory) → ⊥
no_memory_moves e = let place = ap (λ (c : Cursor). c.place) e.1 in omega (arith, place)

-- ---- bytes

no_byte : AreBytes (256 ∷ []) → ⊥
no_byte are = omega (arith, are 0)

longer : Begins (1 ∷ []) (1 ∷ 2 ∷ [])
longer = refl

not_longer : Begins (1 ∷ []) (2 ∷ 1 ∷ []) → ⊥
not_longer e = absurd cc
