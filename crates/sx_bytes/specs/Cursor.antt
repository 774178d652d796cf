-- Decoding from a place in a list of bytes.
use Rattle.std.specs.Prelude.{◌≡◌, ℕ, ◌+◌, ◌-◌, List, length, take, drop, Result, Ok, Err, nat_lt, if◌then◌else◌}
use Rattle.byteorder.specs.Endian.{big_number}
use Rattle.sx_bytes.specs.declared.fault.Short.{Short}

-- all the bytes, and how many lie before the place
pub record Cursor : Type 0 where
  pub bytes : List ℕ
  pub place : ℕ

-- the bytes from the place on
abbrev pub rest : Cursor → List ℕ
rest c = drop c.place c.bytes

-- how many bytes that is
abbrev pub left : Cursor → ℕ
left c = length c.bytes - c.place

abbrev pub moved : ℕ → Cursor → Cursor
moved n c = record { bytes = c.bytes; place = c.place + n }

-- the next n bytes and the cursor after them, or where the bytes end
abbrev pub raw_at : ℕ → Cursor → Result (List ℕ × Cursor) Short
raw_at n c = if nat_lt (left c) n then Err (record { at = length c.bytes }) else Ok (take n (rest c), moved n c)

-- the unsigned integer that the next n bytes decode to, and the cursor after them
abbrev pub uint_at : ℕ → Cursor → Result (ℕ × Cursor) Short
uint_at n c = if nat_lt (left c) n then Err (record { at = length c.bytes }) else
    Ok (big_number n (take n (rest c)), moved n c)

-- A call answers what decoding gives, its value seen by view. At Ok its reader is after the value,
-- and a refusal does not change the reader. The call takes no memory.
abbrev pub Decodes : {X Y E : Type 0} → (X → Y) → Result (Y × Cursor) E → Cursor → Cursor → Result X E → Type 0
Decodes view read old new (Ok x) = read ≡ Ok (view x, new)
Decodes view read old new (Err e) = (read ≡ Err e) × (new ≡ old)
