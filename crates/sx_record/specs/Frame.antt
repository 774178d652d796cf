-- A record, and its one encoding.
use Rattle.std.specs.Prelude.{◌≡◌, ℕ, ◌+◌, ◌≤◌, List, ◌++◌, length, Contains}
use Rattle.byteorder.specs.Endian.{big_bytes}
use Rattle.sx_record.specs.declared.frame.Record.{Record}

-- how many bytes a payload may have, 64 MiB
abbrev pub most_bytes : ℕ
most_bytes = 67108864

-- how many bytes are before a payload
abbrev pub frame_bytes : ℕ
frame_bytes = 5

-- the tag, and the length of the payload
abbrev pub frame : ℕ → ℕ → List ℕ
frame tag size = big_bytes 1 tag ++ big_bytes 4 size

-- the frame, and the payload
abbrev pub record_bytes : ℕ → List ℕ → List ℕ
record_bytes tag payload = frame tag (length payload) ++ payload

-- a record whose tag is at this offset, where these tags are allowed
pub record MayStand (tags : List ℕ) (at : ℕ) (found : Record) : Type 0 where
  pub listed : Contains tags found.tag
  pub place : found.at ≡ at + frame_bytes
  pub fits : length found.payload ≤ most_bytes
