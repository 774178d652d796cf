-- Decoding stays within its bytes.
use Rattle.std.specs.Prelude.{◌≡◌, ℕ, ◌≤◌, List, length, Result, Err}
use Rattle.sx_bytes.specs.declared.fault.FormFault.{FormFault}
use Rattle.sx_bytes.specs.Cursor.{Cursor}

-- where decoding begins within the bytes, its fault is not after their end
abbrev pub FaultsWithin : {X : Type 0} → (Cursor → Result (X × Cursor) FormFault) → Type 0
FaultsWithin read =
    (c : Cursor) (fault : FormFault) → c.place ≤ length c.bytes → read c ≡ Err fault → fault.at ≤ length c.bytes

-- the same of a whole payload
abbrev pub PayloadFaultsWithin : {X : Type 0} → (List ℕ → Result X FormFault) → Type 0
PayloadFaultsWithin read = (bytes : List ℕ) (fault : FormFault) → read bytes ≡ Err fault → fault.at ≤ length bytes
