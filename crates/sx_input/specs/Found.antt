-- What a command found, or why it stopped, before it writes.
use Rattle.std.specs.Prelude.{ℕ, List, Option, Result, Ok, Err}
use Rattle.sx_input.specs.declared.stop.Stop.{Stop}
use Rattle.sx_input.specs.declared.stop.Stop.TheVariants as stop
use Rattle.sx_meaning.specs.Answers.{FindsIn, MayWriteIn}
use Rattle.sx_meaning.specs.Findings.{Concludes, malformed, no_fault, refused}
use Rattle.sx_meaning.specs.Items.{Item}
use Rattle.sx_meaning.specs.Outputs.{Writes}
use Rattle.sx_words.specs.declared.command.Command.{Command}

-- A command may write this of the bytes of a source, or stopped for what is found of them. What is left of them is left
-- in the source.
abbrev pub Found : Command → Option (List ℕ) → Option (List ℕ) → Result (List ℕ) Stop → Type 0
Found command before after (Ok text) = MayWriteIn command before after text
Found command before after (Err (stop.Malformed fault)) = FindsIn command before after (malformed fault)
Found command before after (Err (stop.Refused number why)) = FindsIn command before after (refused number why)
Found command before after (Err stop.ReadFault) = Unit {0}
Found command before after (Err stop.NoMemory) = Unit {0}

-- the same of a command whose input ended after these items
abbrev pub ConcludesAs : Command → List Item → Result (List ℕ) Stop → Type 0
ConcludesAs command items (Ok text) = Concludes command items no_fault × Writes command items text
ConcludesAs command items (Err (stop.Refused number why)) = Concludes command items (refused number why)
ConcludesAs command items (Err (stop.Malformed fault)) = ⊥
ConcludesAs command items (Err stop.ReadFault) = ⊥
ConcludesAs command items (Err stop.NoMemory) = Unit {0}
