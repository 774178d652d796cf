-- The laws of a format: of its decoding, its encoding, and the values that it has.
use Rattle.std.specs.Prelude.{◌≡◌, ℕ, ◌≤◌, List, ◌++◌, length, Result, Ok}
use Rattle.sx_bytes.specs.declared.fault.FormFault.{FormFault}
use Rattle.sx_bytes.specs.Field.{AreBytes}
use Rattle.sx_bytes.specs.Cursor.{Cursor, rest, moved}

-- what is decoded at a place is a value of the format, and its encoding is there
abbrev pub DecodesOnlyEncodings : {X : Type 0} → (Cursor → Result (X × Cursor) FormFault) → (X → List ℕ)
    → (X → Type 0) → Type 0
DecodesOnlyEncodings {X = X} read encoding Is =
    (c next : Cursor) (x : X) → AreBytes c.bytes → read c ≡ Ok (x, next) →
    Is x × (next ≡ moved (length (encoding x)) c) × (rest c ≡ encoding x ++ rest next)

-- where the encoding of a value of the format is, that value is decoded
abbrev pub DecodesEveryEncoding : {X : Type 0} → (Cursor → Result (X × Cursor) FormFault) → (X → List ℕ)
    → (X → Type 0) → Type 0
DecodesEveryEncoding {X = X} read encoding Is =
    (c : Cursor) (x : X) (after : List ℕ) → Is x → c.place ≤ length c.bytes → rest c ≡ encoding x ++ after →
    read c ≡ Ok (x, moved (length (encoding x)) c)

-- two values that have one encoding are the same
abbrev pub IsInjective : {X : Type 0} → (X → List ℕ) → (X → Type 0) → Type 0
IsInjective {X = X} encoding Is = (p q : X) → Is p → Is q → encoding p ≡ encoding q → p ≡ q

-- no encoding of a value is a prefix of that of another
abbrev pub IsPrefixFree : {X : Type 0} → (X → List ℕ) → (X → Type 0) → Type 0
IsPrefixFree {X = X} encoding Is =
    (p q : X) (x y : List ℕ) → Is p → Is q → encoding p ++ x ≡ encoding q ++ y → (p ≡ q) × (x ≡ y)
