-- What a command writes, and what writing leaves.
use Rattle.std.specs.Prelude.{◌≡◌, ℕ, List, Option, Result, Ok, Err}
use Rattle.sx_base.specs.Outside.{Appends, AppendsPrefix}
use Rattle.sx_input.specs.declared.stop.Stop.{Stop}
use Rattle.sx_input.specs.declared.stop.Stop.TheVariants as stop
use Rattle.sx_run.specs.declared.output.Output.{Output}
use Rattle.sx_run.specs.declared.output.Output.TheVariants as output
use Rattle.sx_text.specs.declared.status.Status.{Status}
use Rattle.sx_text.specs.declared.status.Status.TheVariants.{Done, ReadFault, WriteFault, Malformed, Refused}
use Rattle.sx_text.specs.declared.status.Status.TheVariants.{NoMemory}

-- the bytes of an output
abbrev pub bytes_of : Output → List ℕ
bytes_of (output.Record bytes) = bytes
bytes_of (output.Parts bytes) = bytes
bytes_of (output.Text bytes) = bytes

-- what a command found, by its bytes
abbrev pub as_bytes : Result Output Stop → Result (List ℕ) Stop
as_bytes (Ok output) = Ok (bytes_of output)
as_bytes (Err why) = Err why

-- the answer of a command that stopped
abbrev pub status_at : Stop → Status
status_at stop.NoMemory = NoMemory
status_at stop.ReadFault = ReadFault
status_at (stop.Malformed fault) = Malformed fault
status_at (stop.Refused block why) = Refused block why

-- all of the output is written, or a prefix of it
abbrev pub IsWritten : Option (List ℕ) → Option (List ℕ) → List ℕ → Status → Type 0
IsWritten before after output Done = Appends before after output
IsWritten before after output WriteFault = AppendsPrefix before after output
IsWritten before after output _ = ⊥

-- what a command found is written, or why it stopped is the answer
abbrev pub Tells : Result (List ℕ) Stop → Option (List ℕ) → Option (List ℕ) → Status → Type 0
Tells (Ok output) before after result = IsWritten before after output result
Tells (Err stopped) before after result = result ≡ status_at stopped
