-- What `clap` is handed, and what is read of its matches.
use Rattle.std.specs.Prelude.{ℕ, ◌-◌, ◌^◌, ◌<◌, ◌≡◌, ◌⊎◌, List, [], ◌∷◌, Option, Some, None, codes, map, option_map}
use Rattle.std.specs.Prelude.{option_and_then, Result, MatchResult}
use Rattle.std.specs.Borrow.{Bor}
use Rattle.clap.specs.Words.{Row, one_of, subcommand_rows_of}
use Rattle.clap.specs.declared.parser.matches.ArgMatches.{ArgMatches}
use Rattle.sx_words.specs.Numbers.{Text, number_in}
use Rattle.sx_words.specs.Options.{◌>>=◌}
use Rattle.sx_words.specs.Settings.{name_of, least_of, most_of, default_of, Takes}
use Rattle.sx_words.specs.Program.{id_of}
use Rattle.sx_words.specs.declared.command.Command.{Command}
use Rattle.sx_words.specs.declared.command.Command.TheVariants.{Seal, Prove, Demo}
use Rattle.sx_words.specs.declared.fault.WordsFault.{WordsFault}
use Rattle.sx_words.specs.declared.fault.WordsFault.TheVariants.{NoMemory}
use Rattle.sx_words.specs.declared.options.Choice.{Choice}
use Rattle.sx_words.specs.declared.options.Written.{Written}
use Rattle.sx_words.specs.declared.setting.Setting.{Setting}
use Rattle.sx_words.specs.declared.setting.Setting.TheVariants.{Workers, Shards, Mu, Rounds, Searches}

-- ---- the words that it reads

-- the words of an option, where it is given
abbrev pub option_words : Setting → Option Text → List Text
option_words setting None = []
option_words setting (Some number) = name_of setting ∷ number ∷ []

-- the words of a command, with the program's name
abbrev pub begun : Text → List Text
begun name = codes "speedex" ∷ name ∷ []

-- a text that may be there
abbrev pub text_of : Option (Bor Text) → Option Text
text_of = option_map (λ word. word.now)

-- the words as texts
abbrev pub spelled_out : List (Bor Text) → List Text
spelled_out = map (λ word. word.now)

-- the number of an option that may be given
abbrev pub number_of : Setting → Option Text → Option ℕ
number_of setting None = Some (default_of setting)
number_of setting (Some number) = number_in (least_of setting) (most_of setting) number

-- the number of an option that is given at most once
abbrev pub number_if : Setting → Option (Option Text) → Option ℕ
number_if setting given = given >>= number_of setting

-- the option, as it was read
abbrev pub choice_in : Written → Choice
choice_in written = written.choice

abbrev pub choices_in : List Written → List Choice
choices_in = map choice_in

-- the word spells the number of the option
abbrev pub IsWritten : Written → Type 0
IsWritten written = number_in (least_of written.choice.setting) (most_of written.choice.setting) written.word.now
    ≡ Some written.choice.number

-- an option that is left out, or has a number in its range
abbrev pub IsGiven : Setting → Option Text → Type 0
IsGiven setting given = (number : ℕ) × (number_of setting given ≡ Some number)

-- a text that spells a number of 64 bits
abbrev pub IsNumber : Text → Type 0
IsNumber text = (number : ℕ) × (number_in 0 (2 ^ 64 - 1) text ≡ Some number)

-- the name of a command whose only option is the number of workers
abbrev pub HasWorkersAlone : Text → Type 0
HasWorkersAlone name = (name ≡ codes "replay") ⊎ (name ≡ codes "filter")

-- the text of an argument of the subcommand that was met
abbrev pub text_in : Text → Option (Text × List Row) → Option Text
text_in id met = option_and_then (λ p. one_of id p.1) met

-- the matches have a number for the argument
abbrev pub HasNumber : Text → ArgMatches → ℕ → Type 0
HasNumber id matches number = (least most : ℕ) × (text : Text) × (most < 2 ^ 64)
    × (number_in least most text ≡ Some number) × (text_in id (subcommand_rows_of matches) ≡ Some text)

-- the matches have this number for the option, in its range
abbrev pub IsReadAs : Setting → ArgMatches → ℕ → Type 0
IsReadAs setting matches number = Takes setting number × HasNumber (id_of setting) matches number

-- the answer, or memory ran out
abbrev pub OrNoMemory : {T : Type 0} → (T → Type 0) → Result T WordsFault → Type 0
OrNoMemory answers result = MatchResult result answers (λ fault. fault ≡ NoMemory)

-- the commands that numbers make
abbrev pub seal_from : (workers shards mu rounds searches : Option Text) → Option Command
seal_from workers shards mu rounds searches = do
  w ← number_of Workers workers
  s ← number_of Shards shards
  m ← number_of Mu mu
  r ← number_of Rounds rounds
  n ← number_of Searches searches
  Some (Seal w s m r n)

abbrev pub prove_from : Text → Option Command
prove_from id = do
  n ← number_in 0 (2 ^ 64 - 1) id
  Some (Prove n)

abbrev pub demo_from : Text → Option Text → Option Command
demo_from number workers = do
  n ← number_in 0 (2 ^ 64 - 1) number
  w ← number_of Workers workers
  Some (Demo n w)
