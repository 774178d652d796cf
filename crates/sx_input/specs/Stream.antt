-- What a step of reading says of the bytes that a source had.
use Rattle.std.specs.Prelude.{◌≡◌, ℕ, ◌+◌, ◌^◌, ◌<◌, ◌≤◌, List, [], length, Option, None, Some, Result, Ok, Err}
use Rattle.sx_bytes.specs.declared.fault.FormFault.{FormFault}
use Rattle.sx_bytes.specs.declared.fault.ReadError.{ReadError}
use Rattle.sx_bytes.specs.declared.fault.ReadError.TheVariants as read_error
use Rattle.sx_input.specs.declared.stop.Stop.{Stop}
use Rattle.sx_input.specs.declared.stop.Stop.TheVariants as stop
use Rattle.sx_meaning.specs.Expected.{fault_in, shifted}
use Rattle.sx_record.specs.declared.frame.Record.{Record}
use Rattle.sx_record.specs.Decoding.{StreamDecoding}
use Rattle.sx_record.specs.Frame.{record_bytes}
use Rattle.sx_record.specs.Stream.{Took}

-- a fact at each answer but ReadFault
abbrev pub UnlessReadFault : {X : Type 0} → Result X Stop → Type 0 → Type 0
UnlessReadFault (Err stop.ReadFault) fact = Unit {0}
UnlessReadFault _ fact = fact

-- ---- reading from a source

-- decoding finds this fault in the bytes of a source that tells them, and leaves of them what it leaves
abbrev pub FaultsAt : {X : Type 0} → StreamDecoding X → Option (List ℕ) → Option (List ℕ) → FormFault → Type 0
FaultsAt decode None after fault = Unit {0}
FaultsAt decode (Some bytes) after fault = (left : List ℕ) × (decode bytes ≡ (Err fault, left)) × (after ≡ Some left)

-- why reading stops: memory ran out, the source failed, or decoding finds this fault
abbrev pub Stops : {X : Type 0} → StreamDecoding X → Option (List ℕ) → Option (List ℕ) → Stop → Type 0
Stops decode before after (stop.Malformed fault) = FaultsAt decode before after fault
Stops decode before after (stop.Refused number why) = ⊥
Stops decode before after stop.ReadFault = Unit {0}
Stops decode before after stop.NoMemory = Unit {0}

-- a source that tells its bytes was at its end, and still is
abbrev pub WasAtEnd : Option (List ℕ) → Option (List ℕ) → Type 0
WasAtEnd None after = Unit {0}
WasAtEnd (Some bytes) after = (bytes ≡ []) × (after ≡ Some [])

-- a step answers what decoding makes of the bytes of a source that tells them, and leaves of them what decoding leaves
abbrev pub Reads : {X : Type 0} → StreamDecoding X → Option (List ℕ) → Option (List ℕ) → X → Type 0
Reads decode None after x = Unit {0}
Reads decode (Some bytes) after x = (left : List ℕ) × (decode bytes ≡ (Ok x, left)) × (after ≡ Some left)

-- the encoding of a record was taken from a source that tells its bytes, or it was at its end
abbrev pub TakesRecord : Option (List ℕ) → Option (List ℕ) → Option Record → Type 0
TakesRecord before after (Some found) = Took before after (record_bytes found.tag found.payload)
TakesRecord before after None = WasAtEnd before after

-- ---- decoding a payload

-- a fault is in the payload, or right after it
abbrev pub IsInPayload : List ℕ → ReadError → Type 0
IsInPayload payload read_error.NoMemory = Unit {0}
IsInPayload payload (read_error.Form fault) = fault.at ≤ length payload

-- the offset of a fault in a payload that begins at this one is a number of 64 bits
abbrev pub IsWithin : ℕ → ReadError → Type 0
IsWithin at read_error.NoMemory = Unit {0}
IsWithin at (read_error.Form fault) = at + fault.at < 2 ^ 64

-- a payload that begins at this offset was not decoded
abbrev pub stop_of : ℕ → ReadError → Stop
stop_of at read_error.NoMemory = stop.NoMemory
stop_of at (read_error.Form fault) = stop.Malformed (fault_in at fault)

-- why decoding a payload, of which this is made, may stop
abbrev pub FailsAs : {Y : Type 0} → Result Y FormFault → Stop → Type 0
FailsAs decoded (stop.Malformed fault) = decoded ≡ Err fault
FailsAs decoded stop.NoMemory = Unit {0}
FailsAs decoded stop.ReadFault = ⊥
FailsAs decoded (stop.Refused number why) = ⊥

-- A payload that begins at this offset holds what decoding gives, its value seen by view, or memory ran out.
abbrev pub Holds : {X Y : Type 0} → (X → Y) → ℕ → Result Y FormFault → Result X Stop → Type 0
Holds view at decoded (Ok x) = decoded ≡ Ok (view x)
Holds view at decoded (Err stopped) = FailsAs (shifted at decoded) stopped
