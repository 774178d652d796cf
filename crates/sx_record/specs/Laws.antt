-- The laws of decoding records and of their encoding.
use Rattle.std.specs.Prelude.{◌≡◌, ℕ, ◌+◌, ◌<◌, ◌≤◌, List, [], ◌++◌, length, Contains, Some, None, Ok}
use Rattle.sx_bytes.specs.Field.{AreBytes}
use Rattle.sx_record.specs.declared.frame.Record.{Record}
use Rattle.sx_record.specs.Frame.{most_bytes, frame_bytes, record_bytes, MayStand}
use Rattle.sx_record.specs.Decoding.{record_at}

-- a record that is decoded is allowed there, and its encoding is there
abbrev pub DecodesOnlyRecords : Type 0
DecodesOnlyRecords = (tags bytes rest : List ℕ) (at : ℕ) (found : Record) → AreBytes bytes
    → record_at tags at bytes ≡ (Ok (Some found), rest)
    → (bytes ≡ record_bytes found.tag found.payload ++ rest) × MayStand tags at found

-- the encoding of a record decodes to it, and leaves the bytes after it
abbrev pub DecodesEveryRecord : Type 0
DecodesEveryRecord = (tags payload rest : List ℕ) (tag at : ℕ) → tag < 256 → Contains tags tag
    → length payload ≤ most_bytes
    → record_at tags at (record_bytes tag payload ++ rest)
    ≡ (Ok (Some (record { tag = tag; at = at + frame_bytes; payload = payload })), rest)

-- no record is a prefix of another
abbrev pub AreRecordsPrefixFree : Type 0
AreRecordsPrefixFree = (t u : ℕ) (p q x y : List ℕ) → t < 256 → u < 256 → length p ≤ most_bytes → length q ≤ most_bytes
    → record_bytes t p ++ x ≡ record_bytes u q ++ y → (t ≡ u) × (p ≡ q) × (x ≡ y)

-- no record is found only where there are no bytes
abbrev pub EndsOnlyAtEnd : Type 0
EndsOnlyAtEnd = (tags bytes rest : List ℕ) (at : ℕ) → record_at tags at bytes ≡ (Ok None, rest) → (bytes ≡ [])
    × (rest ≡ [])
