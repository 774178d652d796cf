-- How a format is defined: decoding from left to right, field by field, with the first fault.
use Rattle.std.specs.Prelude.{◌≡◌, ℕ, zero, suc, Bool, true, ◌&&◌, Option, Some, None, List, [], ◌∷◌, Result, Ok, Err}
use Rattle.std.specs.Prelude.{nat_le, if◌then◌else◌}
use Rattle.sx_bytes.specs.declared.fault.Form.{Form}
use Rattle.sx_bytes.specs.declared.fault.FormFault.{FormFault}
use Rattle.sx_bytes.specs.declared.fault.ReadError.{ReadError}
use Rattle.sx_bytes.specs.declared.fault.ReadError.TheVariants as read_error
use Rattle.sx_bytes.specs.declared.fault.Short.{Short}
use Rattle.sx_bytes.specs.Cursor.{Cursor, uint_at}
use Rattle.sx_bytes.specs.Fault.{fault_of_short}

infixl 10 ◌>>=◌
abbrev pub ◌>>=◌ : {A B E : Type 0} → Result A E → (A → Result B E) → Result B E
(Ok x) >>= f = f x
(Err e) >>= f = Err e

-- too few bytes, as a form fault
abbrev pub or_fault : {A : Type 0} → Result A Short → Result A FormFault
or_fault (Ok x) = Ok x
or_fault (Err e) = Err (fault_of_short e)

-- whether an integer is in a range, both ends included
abbrev pub between : ℕ → ℕ → ℕ → Bool
between low high x = nat_le low x && nat_le x high

-- a field of n bytes, read whole and then tested
abbrev pub field_at : ℕ → (ℕ → Bool) → Form → Cursor → Result (ℕ × Cursor) FormFault
field_at n passes fault c = do
  x ← or_fault (uint_at n c)
  if passes x.0 then Ok x else Err (record { at = c.place; fault = fault })

-- n entries, one after the other
unfoldable pub many_at : {X : Type 0} → (Cursor → Result (X × Cursor) FormFault) → ℕ → Cursor
    → Result (List X × Cursor) FormFault
many_at entry zero c = Ok ([], c)
many_at entry (suc n) c = do
  first ← entry c
  others ← many_at entry n first.1
  Ok (first.0 ∷ others.0, others.1)

-- a failed call answers the fault that decoding gives, or NoMemory
abbrev pub Fails : {Y : Type 0} → ReadError → Result Y FormFault → Type 0
Fails read_error.NoMemory read = Unit {0}
Fails (read_error.Form fault) read = read ≡ Err fault

-- a call without a reader answers what decoding gives, or NoMemory in place of that
abbrev pub Gives : {X Y : Type 0} → (X → Y) → Result X ReadError → Result Y FormFault → Type 0
Gives view (Ok x) read = read ≡ Ok (view x)
Gives view (Err e) read = Fails e read

-- an entry may follow the one before it, if there is one
abbrev pub may_follow : {X : Type 0} → (X → X → Bool) → Option X → X → Bool
may_follow precedes None x = true
may_follow precedes (Some before) x = precedes before x

-- each entry follows the one before it
abbrev pub in_order : {X : Type 0} → (X → X → Bool) → Option X → List X → Bool
in_order precedes before [] = true
in_order precedes before (x ∷ xs) = may_follow precedes before x && in_order precedes (Some x) xs

-- n entries, each of which may follow the one before it
unfoldable pub ordered_at : {X : Type 0} → (Cursor → Result (X × Cursor) FormFault) → (X → X → Bool) → Form → ℕ
    → Option X → Cursor → Result (List X × Cursor) FormFault
ordered_at entry precedes fault zero before c = Ok ([], c)
ordered_at entry precedes fault (suc n) before c = do
  first ← entry c
  placed ← (if may_follow precedes before first.0 then Ok first else Err (record { at = c.place; fault = fault }))
  others ← ordered_at entry precedes fault n (Some first.0) placed.1
  Ok (first.0 ∷ others.0, others.1)

-- A call that takes memory, as Decodes says it of one that takes none: it answers what decoding
-- gives, or NoMemory in place of that. At Ok its reader is after the value, and neither a refusal
-- nor NoMemory changes the reader.
abbrev pub MayDecode : {X Y : Type 0} → (X → Y) → Result (Y × Cursor) FormFault → Cursor → Cursor
    → Result X ReadError → Type 0
MayDecode view read old new (Ok x) = read ≡ Ok (view x, new)
MayDecode view read old new (Err e) = Fails e read × (new ≡ old)

-- The same two for private steps, whose reader may be anywhere after a refusal.
abbrev pub DecodesOrStrays : {X Y : Type 0} → (X → Y) → Result (Y × Cursor) FormFault → Cursor
    → Result X FormFault → Type 0
DecodesOrStrays view read new (Ok x) = read ≡ Ok (view x, new)
DecodesOrStrays view read new (Err e) = read ≡ Err e

abbrev pub MayDecodeOrStray : {X Y : Type 0} → (X → Y) → Result (Y × Cursor) FormFault → Cursor
    → Result X ReadError → Type 0
MayDecodeOrStray view read new (Ok x) = read ≡ Ok (view x, new)
MayDecodeOrStray view read new (Err e) = Fails e read
