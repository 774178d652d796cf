-- The commands, as words spell them.
use Rattle.std.specs.Prelude.{◌≡◌, ℕ, ◌-◌, ◌^◌, ◌<◌, List, [], ◌∷◌, ◌++◌, Option, Some, None, Result, Ok, Err, find}
use Rattle.std.specs.Prelude.{codes}
use Rattle.std.specs.Fmt.{decimal}
use Rattle.std.specs.Str.{bytes_eq}
use Rattle.sx_words.specs.Numbers.{Text, number_in}
use Rattle.sx_words.specs.Settings.{name_of, Takes}
use Rattle.sx_words.specs.Options.{◌>>=◌, read_options, number_for}
use Rattle.sx_words.specs.declared.command.Command.{Command}
use Rattle.sx_words.specs.declared.command.Command.TheVariants.{Seal, Replay, Check, Show, Interleave, Migrate, Filter}
use Rattle.sx_words.specs.declared.command.Command.TheVariants.{Prove, Verify, Follow, Demo}
use Rattle.sx_words.specs.declared.fault.WordsFault.{WordsFault}
use Rattle.sx_words.specs.declared.fault.WordsFault.TheVariants.{NoMemory, Usage}
use Rattle.sx_words.specs.declared.options.Choice.{Choice}
use Rattle.sx_words.specs.declared.setting.Setting.{Setting}
use Rattle.sx_words.specs.declared.setting.Setting.TheVariants.{Workers, Shards, Mu, Rounds, Searches}

-- ---- which options a command has

abbrev pub seal_options : List Setting
seal_options = Workers ∷ Shards ∷ Mu ∷ Rounds ∷ Searches ∷ []

abbrev pub replay_options : List Setting
replay_options = Workers ∷ []

abbrev pub filter_options : List Setting
filter_options = Workers ∷ []

abbrev pub demo_options : List Setting
demo_options = Workers ∷ []

-- ---- what comes after a command's name

abbrev pub nothing_more : Command → List Text → Option Command
nothing_more command [] = Some command
nothing_more command (word ∷ rest) = None

abbrev pub seal_by : List Choice → Option Command
seal_by choices = do
  workers ← number_for Workers choices
  shards ← number_for Shards choices
  mu ← number_for Mu choices
  rounds ← number_for Rounds choices
  searches ← number_for Searches choices
  Some (Seal workers shards mu rounds searches)

abbrev pub replay_by : List Choice → Option Command
replay_by choices = do
  workers ← number_for Workers choices
  Some (Replay workers)

abbrev pub filter_by : List Choice → Option Command
filter_by choices = do
  workers ← number_for Workers choices
  Some (Filter workers)

abbrev pub demo_by : ℕ → List Choice → Option Command
demo_by number choices = do
  workers ← number_for Workers choices
  Some (Demo number workers)

abbrev pub seal_of : List Text → Option Command
seal_of words = read_options seal_options words >>= seal_by

abbrev pub replay_of : List Text → Option Command
replay_of words = read_options replay_options words >>= replay_by

abbrev pub filter_of : List Text → Option Command
filter_of words = read_options filter_options words >>= filter_by

-- a number of 64 bits alone
abbrev pub prove_of : List Text → Option Command
prove_of [] = None
prove_of (word ∷ words) = do
  id ← number_in 0 (2 ^ 64 - 1) word
  nothing_more (Prove id) words

-- a number of 64 bits, and then options
abbrev pub demo_of : List Text → Option Command
demo_of [] = None
demo_of (word ∷ words) = do
  number ← number_in 0 (2 ^ 64 - 1) word
  choices ← read_options demo_options words
  demo_by number choices

-- ---- the commands

-- a command: its name, and what it makes of the words after it
pub record Form : Type 0 where
  pub name : Text
  pub reads : List Text → Option Command

abbrev pub forms : List Form
forms =
    record { name = codes "seal"; reads = seal_of }
    ∷ record { name = codes "replay"; reads = replay_of }
    ∷ record { name = codes "check"; reads = nothing_more Check }
    ∷ record { name = codes "show"; reads = nothing_more Show }
    ∷ record { name = codes "interleave"; reads = nothing_more Interleave }
    ∷ record { name = codes "migrate"; reads = nothing_more Migrate }
    ∷ record { name = codes "filter"; reads = filter_of }
    ∷ record { name = codes "prove"; reads = prove_of }
    ∷ record { name = codes "verify"; reads = nothing_more Verify }
    ∷ record { name = codes "follow"; reads = nothing_more Follow }
    ∷ record { name = codes "demo"; reads = demo_of }
    ∷ []

-- the command that words spell, if they spell one
unfoldable pub command_of : List Text → Option Command
command_of [] = None
command_of (name ∷ words) = find (λ form. bytes_eq form.name name) forms >>= λ form. form.reads words

-- ---- commands in range, and how they are spelled

-- each number of a command is in the range of its option
abbrev pub InRange : Command → Type 0
InRange (Seal workers shards mu rounds searches) =
    Takes Workers workers × Takes Shards shards × Takes Mu mu × Takes Rounds rounds × Takes Searches searches
InRange (Replay workers) = Takes Workers workers
InRange (Filter workers) = Takes Workers workers
InRange (Prove id) = id < 2 ^ 64
InRange (Demo number workers) = (number < 2 ^ 64) × Takes Workers workers
InRange _ = Unit {0}

-- an option of two words
abbrev pub spelled : Setting → ℕ → List Text
spelled setting number = name_of setting ∷ decimal number ∷ []

-- an option of one word
abbrev pub joined : Setting → ℕ → List Text
joined setting number = (name_of setting ++ (codes "=" ++ decimal number)) ∷ []

-- a command with all its options, each spelled in this way
abbrev pub spelling_by : (Setting → ℕ → List Text) → Command → List Text
spelling_by option (Seal workers shards mu rounds searches) =
    codes "seal" ∷ (option Workers workers ++ (option Shards shards ++ (option Mu mu ++ (option Rounds rounds ++
    option Searches searches))))
spelling_by option (Replay workers) = codes "replay" ∷ option Workers workers
spelling_by option Check = codes "check" ∷ []
spelling_by option Show = codes "show" ∷ []
spelling_by option Interleave = codes "interleave" ∷ []
spelling_by option Migrate = codes "migrate" ∷ []
spelling_by option (Filter workers) = codes "filter" ∷ option Workers workers
spelling_by option (Prove id) = codes "prove" ∷ decimal id ∷ []
spelling_by option Verify = codes "verify" ∷ []
spelling_by option Follow = codes "follow" ∷ []
spelling_by option (Demo number workers) = codes "demo" ∷ decimal number ∷ option Workers workers

-- an answer to words in which this command was found
abbrev pub Answers : Option Command → Result Command WordsFault → Type 0
Answers found (Ok command) = (found ≡ Some command) × InRange command
Answers found (Err NoMemory) = Unit {0}
Answers found (Err Usage) = found ≡ None
