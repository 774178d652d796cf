-- What an answer says of the input, and of what is written.
use Rattle.std.specs.Prelude.{◌≡◌, ◌⊎◌, ℕ, Bool, true, false, List, [], Option, None, Some, String}
use Rattle.std.specs.Global.{Global}
use Rattle.sx_base.specs.Outside.{Appends, AppendsPrefix}
use Rattle.sx_meaning.specs.Findings.{Finding, Finds, malformed, no_fault, refused}
use Rattle.sx_meaning.specs.Outputs.{MayWrite}
use Rattle.sx_text.specs.declared.status.Status.{Status}
use Rattle.sx_text.specs.declared.status.Status.TheVariants.{Done, Usage, ReadFault, WriteFault, Malformed, Refused}
use Rattle.sx_text.specs.declared.status.Status.TheVariants.{NoMemory}
use Rattle.sx_words.specs.declared.command.Command.{Command}
use Rattle.sx_words.specs.declared.command.Command.TheVariants.{Check, Demo, Filter, Follow, Interleave, Migrate, Prove}
use Rattle.sx_words.specs.declared.command.Command.TheVariants.{Replay, Seal, Show, Verify}
use Rattle.sx_words.specs.Commands.{command_of}
use Rattle.sx_words.specs.Numbers.{texts}

-- what is found of some input, whatever is left of it
abbrev pub FindsInSome : Command → Finding → Type 0
FindsInSome command finding = (bytes : List ℕ) × (left : List ℕ) × Finds command bytes finding left

-- This is found of the bytes of a source, and what is left of them is left in it. Where the source does not tell its
-- bytes, it is found of some, and a form fault may be any.
abbrev pub FindsIn : Command → Option (List ℕ) → Option (List ℕ) → Finding → Type 0
FindsIn command (Some bytes) after finding = (left : List ℕ) × Finds command bytes finding left × (after ≡ Some left)
FindsIn command None after (malformed fault) = Unit {0}
FindsIn command None after no_fault = FindsInSome command no_fault
FindsIn command None after (refused number why) = FindsInSome command (refused number why)

-- the same of what may be written
abbrev pub MayWriteIn : Command → Option (List ℕ) → Option (List ℕ) → List ℕ → Type 0
MayWriteIn command (Some bytes) after text = (left : List ℕ) × MayWrite command bytes text left × (after ≡ Some left)
MayWriteIn command None after text = (bytes : List ℕ) × (left : List ℕ) × MayWrite command bytes text left

-- what is found, as an answer
abbrev pub status_of : Finding → Status
status_of no_fault = Done
status_of (malformed fault) = Malformed fault
status_of (refused number why) = Refused number why

-- What an answer says of the bytes of the source before and after, and of those that the sink held before and after:
-- all of the output is written at Done, and a prefix of it at WriteFault.
abbrev pub Answers : Command → Option (List ℕ) → Option (List ℕ) → Option (List ℕ) → Option (List ℕ) → Status → Type 0
Answers command before after old new Done =
    (text : List ℕ) × MayWriteIn command before after text × Appends old new text
Answers command before after old new WriteFault =
    (text : List ℕ) × MayWriteIn command before after text × AppendsPrefix old new text
Answers command before after old new (Malformed fault) = FindsIn command before after (malformed fault)
Answers command before after old new (Refused number why) = FindsIn command before after (refused number why)
Answers command before after old new Usage = ⊥
Answers command before after old new ReadFault = Unit {0}
Answers command before after old new NoMemory = Unit {0}

-- what is found of the bytes of a source that tells them is the answer, or memory ran out
abbrev pub Completes : Command → Option (List ℕ) → Status → Type 0
Completes command None result = Unit {0}
Completes command (Some bytes) result =
    (found : Finding) (left : List ℕ) → Finds command bytes found left →
    (result ≡ status_of found) ⊎ (result ≡ NoMemory)

-- a source that tells its bytes was read to its end
abbrev pub IsReadWhole : Option (List ℕ) → Option (List ℕ) → Type 0
IsReadWhole None after = Unit {0}
IsReadWhole (Some bytes) after = after ≡ Some []

-- so it is at each command but one that reads nothing
abbrev pub IsRead : Command → Option (List ℕ) → Option (List ℕ) → Type 0
IsRead (Demo number workers) before after = after ≡ before
IsRead _ before after = IsReadWhole before after

-- ---- words

-- the command that words spell
abbrev pub asked : List (String Global) → Option Command
asked words = command_of (texts words)

-- a command that reads nothing
abbrev pub takes_no_input : Command → Bool
takes_no_input (Demo number workers) = true
takes_no_input (Seal workers shards mu rounds searches) = false
takes_no_input Check = false
takes_no_input (Replay workers) = false
takes_no_input Interleave = false
takes_no_input Migrate = false
takes_no_input Show = false
takes_no_input (Filter workers) = false
takes_no_input (Prove id) = false
takes_no_input Verify = false
takes_no_input Follow = false

-- the words are no command, or one that reads nothing
abbrev pub reads_nothing : Option Command → Bool
reads_nothing None = true
reads_nothing (Some command) = takes_no_input command

-- Usage comes exactly where the words are no command, but that memory may run out
abbrev pub FitsWords : Option Command → Status → Type 0
FitsWords None Usage = Unit {0}
FitsWords None NoMemory = Unit {0}
FitsWords None _ = ⊥
FitsWords (Some command) Usage = ⊥
FitsWords (Some command) _ = Unit {0}
