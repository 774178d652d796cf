-- The texts of outcomes and of a script.
use Rattle.std.specs.Prelude.{ℕ, List, ◌++◌, codes, length}
use Rattle.std.specs.Fmt.{decimal}
use Rattle.std.specs.List.{flat_map}
use Rattle.sx_outcome.specs.declared.outcome.Outcome.{Outcome}
use Rattle.sx_outcome.specs.declared.outcome.Outcome.TheVariants as outcome
use Rattle.sx_outcome.specs.declared.script.Script.{Script}
use Rattle.sx_ledger.specs.Static.{number_of_static}
use Rattle.sx_text.specs.Pieces.{count_line, indexed, line}

-- what became of a candidate
abbrev pub outcome_text : Outcome → List ℕ
outcome_text outcome.Accepted = codes "accepted"
outcome_text (outcome.Static why) = codes "static " ++ decimal (number_of_static why)
outcome_text outcome.SeqTaken = codes "seq-taken"
outcome_text outcome.OfferTaken = codes "offer-taken"
outcome_text outcome.NameTaken = codes "name-taken"
outcome_text (outcome.Overdraft seen need) =
    codes "overdraft seen " ++ (decimal seen ++ (codes " need " ++ decimal need))

-- the index of a candidate, and what became of it
abbrev pub outcome_line : ℕ → Outcome → List ℕ
outcome_line index outcome = decimal index ++ (codes " " ++ line (outcome_text outcome))

abbrev pub outcomes_text : List Outcome → List ℕ
outcomes_text outcomes = count_line (codes "outcomes") (length outcomes) ++ indexed outcome_line outcomes

-- which actor makes a step
abbrev pub turn_line : ℕ → List ℕ
turn_line actor = codes "turn " ++ line (decimal actor)

abbrev pub script_line : Script → List ℕ
script_line script =
    codes "script actors " ++ (decimal script.actors ++ (codes " turns " ++ line (decimal (length script.turns))))

abbrev pub script_text : Script → List ℕ
script_text script = script_line script ++ flat_map turn_line script.turns
