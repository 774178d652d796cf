-- Laws of the encodings, for all values.
use Rattle.std.specs.Prelude.{◌≡◌, ◌≤◌, List, length}
use Rattle.sx_outcome.specs.declared.outcome.Outcome.{Outcome}
use Rattle.sx_outcome.specs.declared.script.Script.{Script}
use Rattle.sx_outcome.specs.OutcomeDecoding.{static_numbered}
use Rattle.sx_outcome.specs.Outcomes.{most_outcomes, most_outcomes_bytes, outcomes_bytes}
use Rattle.sx_outcome.specs.Scripts.{most_turns, most_script_bytes, script_bytes}
use Rattle.sx_ledger.specs.declared.statics.Static.{Static}
use Rattle.sx_ledger.specs.Static.{number_of_static}

-- each static refusal is the one of its number
abbrev pub NumbersNameStatics : Type 0
NumbersNameStatics = (why : Static) → static_numbered (number_of_static why) ≡ why

-- the encoding of a list of outcomes fits the payload of a record, which may have 64 MiB
abbrev pub OutcomesFit : Type 0
OutcomesFit =
    (outcomes : List Outcome) → length outcomes ≤ most_outcomes
    → length (outcomes_bytes outcomes) ≤ most_outcomes_bytes

-- the same of scripts
abbrev pub ScriptsFit : Type 0
ScriptsFit = (script : Script) → length script.turns ≤ most_turns → length (script_bytes script) ≤ most_script_bytes
