-- Decoding the next record at the beginning of a list of bytes.
use Rattle.std.specs.Prelude.{ℕ, ◌+◌, List, [], ◌∷◌, length, take, drop, Option, Some, None, Result, Ok, Err, nat_lt}
use Rattle.std.specs.Prelude.{nat_le, ◌==◌, if◌then◌else◌}
use Rattle.std.specs.List.{list_any}
use Rattle.byteorder.specs.Endian.{big_number}
use Rattle.sx_bytes.specs.declared.fault.Form.{Form}
use Rattle.sx_bytes.specs.declared.fault.Form.TheVariants as form
use Rattle.sx_bytes.specs.declared.fault.FormFault.{FormFault}
use Rattle.sx_record.specs.declared.frame.Record.{Record}
use Rattle.sx_record.specs.Frame.{most_bytes, frame_bytes}

-- what decoding makes of a list of bytes: its value or the first fault, and the bytes that it leaves
abbrev pub StreamDecoding : Type 0 → Type 0
StreamDecoding X = List ℕ → Result X FormFault × List ℕ

abbrev pub done : {X : Type 0} → X → StreamDecoding X
done x bytes = (Ok x, bytes)

abbrev pub fails : {X : Type 0} → Form → ℕ → StreamDecoding X
fails fault at bytes = (Err (record { at = at; fault = fault }), bytes)

-- a decoding after another, unless that one found a fault
abbrev pub go_on : {X Y : Type 0} → Result X FormFault × List ℕ → (X → StreamDecoding Y) → Result Y FormFault × List ℕ
go_on (Ok x, rest) next = next x rest
go_on (Err fault, rest) next = (Err fault, rest)

infixl 10 ◌>>=◌
abbrev pub ◌>>=◌ : {X Y : Type 0} → StreamDecoding X → (X → StreamDecoding Y) → StreamDecoding Y
(read >>= next) bytes = go_on (read bytes) next

-- the next n bytes, of which the first is at this offset
abbrev pub bytes_at : ℕ → ℕ → StreamDecoding (List ℕ)
bytes_at n at bytes =
    if nat_lt (length bytes) n then (Err (record { at = at + length bytes; fault = form.Short }), []) else
    (Ok (take n bytes), drop n bytes)

-- the length of a payload, decoded whole and then tested
unfoldable pub length_at : ℕ → StreamDecoding ℕ
length_at at = do
  field ← bytes_at 4 at
  if nat_le (big_number 4 field) most_bytes then done (big_number 4 field) else fails form.TooLong at

-- the length and the payload after a tag, which is at this offset
unfoldable pub after_tag : ℕ → ℕ → StreamDecoding (Option Record)
after_tag tag at = do
  size ← length_at (at + 1)
  payload ← bytes_at size (at + frame_bytes)
  done (Some (record { tag = tag; at = at + frame_bytes; payload = payload }))

-- the next record, whose tag is at this offset and one of these, or none at the end
unfoldable pub record_at : List ℕ → ℕ → StreamDecoding (Option Record)
record_at tags at [] = done None []
record_at tags at (tag ∷ bytes) =
    if list_any (λ t. t == tag) tags then after_tag tag at bytes else fails form.Tag at bytes
