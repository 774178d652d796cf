-- What is taken from a source.
use Rattle.std.specs.Prelude.{◌≡◌, ℕ, ◌+◌, ◌<◌, List, [], ◌∷◌, ◌++◌, length, Option, None, Some, Result, Ok, Err}
use Rattle.sx_bytes.specs.declared.fault.Form.TheVariants as form
use Rattle.sx_bytes.specs.declared.fault.FormFault.{FormFault}
use Rattle.sx_record.specs.declared.fault.RecordFault.{RecordFault}
use Rattle.sx_record.specs.declared.fault.RecordFault.TheVariants.{NoMemory, Failed, Form}
use Rattle.sx_record.specs.Decoding.{StreamDecoding}

-- A call answers what decoding makes of the bytes of a source that tells them, and leaves of them
-- what decoding leaves. Nothing is said of another source, nor where it failed or memory ran out.
abbrev pub DecodesStream : {X : Type 0} → StreamDecoding X → Option (List ℕ) → Option (List ℕ) → Result X RecordFault
    → Type 0
DecodesStream read None after answer = Unit {0}
DecodesStream read (Some bytes) after (Ok x) = (rest : List ℕ) × (read bytes ≡ (Ok x, rest)) × (after ≡ Some rest)
DecodesStream read (Some bytes) after (Err (Form fault)) = (rest : List ℕ) × (read bytes ≡ (Err fault, rest))
    × (after ≡ Some rest)
DecodesStream read (Some bytes) after (Err Failed) = Unit {0}
DecodesStream read (Some bytes) after (Err NoMemory) = Unit {0}

-- the bytes of a source that tells them began with this text, and what comes after it is left
abbrev pub Took : Option (List ℕ) → Option (List ℕ) → List ℕ → Type 0
Took None after text = Unit {0}
Took (Some bytes) after text = (rest : List ℕ) × (bytes ≡ text ++ rest) × (after ≡ Some rest)

-- the next bytes of a source were appended to those that had come
abbrev pub Adds : Option (List ℕ) → Option (List ℕ) → List ℕ → List ℕ → Type 0
Adds before after old new = (piece : List ℕ) × (new ≡ old ++ piece) × Took before after piece

-- a source that tells its bytes ended after fewer than n, the first of which was at this offset
abbrev pub EndsShort : Option (List ℕ) → Option (List ℕ) → ℕ → ℕ → FormFault → Type 0
EndsShort None after n at fault = Unit {0}
EndsShort (Some bytes) after n at fault =
    (length bytes < n) × (after ≡ Some []) × (fault ≡ record { at = at + length bytes; fault = form.Short })

-- the bytes of a source that tells them began with the tag, or it was at its end
abbrev pub HasTag : Option (List ℕ) → Option (List ℕ) → Option ℕ → Type 0
HasTag before after (Some tag) = Took before after (tag ∷ [])
HasTag None after None = Unit {0}
HasTag (Some bytes) after None = (bytes ≡ []) × (after ≡ Some [])

-- a fact at each answer but Failed
abbrev pub UnlessFailed : {X : Type 0} → Result X RecordFault → Type 0 → Type 0
UnlessFailed (Err Failed) fact = Unit {0}
UnlessFailed _ fact = fact

-- a fact of the form fault, where the answer is one
abbrev pub IfForm : {X : Type 0} → Result X RecordFault → (FormFault → Type 0) → Type 0
IfForm (Err (Form fault)) fact = fact fault
IfForm _ fact = Unit {0}
