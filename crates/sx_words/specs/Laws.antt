-- The laws of words and commands.
use Rattle.std.specs.Prelude.{◌≡◌, ℕ, ◌^◌, ◌<◌, ◌≤◌, ◌↔◌, List, [], ◌∷◌, Some, None, map, Contains}
use Rattle.std.specs.Fmt.{decimal}
use Rattle.sx_words.specs.Numbers.{Text, number_in}
use Rattle.sx_words.specs.Commands.{command_of, forms, spelled, joined, spelling_by, InRange}
use Rattle.sx_words.specs.declared.command.Command.{Command}

-- a number has one spelling, its decimal digits
abbrev pub SpellsOneWay : Type 0
SpellsOneWay = (least most number : ℕ) (text : Text) → most < 2 ^ 64
    → (number_in least most text ≡ Some number) ↔ ((text ≡ decimal number) × (least ≤ number) × (number ≤ most))

-- a command is read from its words, whether each option is two words or one
abbrev pub ReadsSpelling : Type 0
ReadsSpelling = (command : Command) → InRange command
    → (command_of (spelling_by spelled command) ≡ Some command)
    × (command_of (spelling_by joined command) ≡ Some command)

-- no words, and words that begin with no command, are no command
abbrev pub NeedsName : Type 0
NeedsName = (command_of [] ≡ None)
    × ((name : Text) (words : List Text) → (Contains (map (λ form. form.name) forms) name → ⊥)
    → command_of (name ∷ words) ≡ None)
