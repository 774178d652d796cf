-- What each answer says, whatever the words ask for.
use Rattle.std.specs.Prelude.{◌≡◌, ◌⊎◌, ℕ, ◌-◌, ◌^◌, ◌<◌, ◌≤◌, List, [], ◌++◌, length, take, Some, Err, String}
use Rattle.std.specs.Global.{Global}
use Rattle.sx_block.specs.declared.invalid.Invalid.{Invalid}
use Rattle.sx_bytes.specs.declared.fault.FormFault.{FormFault}
use Rattle.sx_meaning.specs.Answers.{asked}
use Rattle.sx_meaning.specs.Expected.{item_at}
use Rattle.sx_meaning.specs.Findings.{Finds, MayComeAll, expected, malformed, no_fault, refused}
use Rattle.sx_meaning.specs.Items.{Item, records}
use Rattle.sx_meaning.specs.Outputs.{MayWrite}
use Rattle.sx_text.specs.declared.status.Status.{Status}
use Rattle.sx_text.specs.declared.status.Status.TheVariants.{Done, Malformed, NoMemory, Refused}
use Rattle.sx_words.specs.declared.command.Command.{Command}

-- where the words ask for this command and it is done, a text of which this holds came after what was there
abbrev pub Tells :
    List (String Global) → Command → Status → List ℕ → List ℕ → (List ℕ → Type 0) → Type 0
Tells words command result old new Fact =
    asked words ≡ Some command → result ≡ Done → (text : List ℕ) × (new ≡ old ++ text) × Fact text

-- a count of faults is greater than before, or it is at its last value
abbrev pub HasRisen : ℕ → ℕ → Type 0
HasRisen old new = (old < new) ⊎ (new ≡ 2 ^ 64 - 1)

-- a text that the command may write came after what was there
pub record WroteAll (command : Command) (input old new : List ℕ) : Type 0 where
  pub text : List ℕ
  pub left : List ℕ
  pub may : MayWrite command input text left
  pub appended : new ≡ old ++ text

-- some first bytes of a text that the command may write came after what was there
pub record WroteFirst (command : Command) (input old new : List ℕ) : Type 0 where
  pub text : List ℕ
  pub left : List ℕ
  pub count : ℕ
  pub may : MayWrite command input text left
  pub within : count ≤ length text
  pub appended : new ≡ old ++ take count text

-- records that the command takes come first, and the record after them has this fault first
pub record IsMalformed (command : Command) (input : List ℕ) (fault : FormFault) : Type 0 where
  pub items : List Item
  pub rest : List ℕ
  pub left : List ℕ
  pub each : MayComeAll command [] items
  pub read : input ≡ records items ++ rest
  pub fails : item_at (expected command items) (length (records items)) rest ≡ (Err fault, left)

-- the answer is what is found of the input, or memory ran out
pub record IsComplete (command : Command) (input : List ℕ) (result : Status) : Type 0 where
  pub done : (left : List ℕ) → Finds command input no_fault left → (result ≡ Done) ⊎ (result ≡ NoMemory)
  pub fault : (fault : FormFault) (left : List ℕ) → Finds command input (malformed fault) left →
      (result ≡ Malformed fault) ⊎ (result ≡ NoMemory)
  pub refusal : (number : ℕ) (why : Invalid) (left : List ℕ) → Finds command input (refused number why) left →
      (result ≡ Refused number why) ⊎ (result ≡ NoMemory)
