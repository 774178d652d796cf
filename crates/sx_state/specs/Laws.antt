-- Laws of a state's encoding.
use Rattle.std.specs.Prelude.{ℕ, ◌≤◌, length}
use Rattle.sx_ledger.specs.declared.parts.Parts.{Parts}
use Rattle.sx_ledger.specs.Ledger.{IsLedger}
use Rattle.sx_state.specs.Encoding.{state_bytes}

-- the bytes of the longest state
abbrev pub longest_state : ℕ
longest_state = 27263506

-- the longest encoding has 27,263,506 bytes, which fit the payload of a record
abbrev pub EveryStateFits : Type 0
EveryStateFits = (parts : Parts) → IsLedger parts → length (state_bytes parts) ≤ longest_state
