-- From what a command found to the answer.
use Rattle.std.proofs.Common.{◌≡◌, ℕ, List, Option, Some, None, Result, Ok, Err, inl, inr, refl, ap}
use Rattle.std.specs.Prelude.{IfSome, IsTrue}
use Rattle.sx_input.specs.declared.stop.Stop.{Stop}
use Rattle.sx_input.specs.declared.stop.Stop.TheVariants as stop
use Rattle.sx_input.specs.Found.{Found}
use Rattle.sx_input.specs.Stream.{UnlessReadFault}
use Rattle.sx_meaning.specs.Answers.{Answers, Completes, FitsWords, IsRead, MayWriteIn, reads_nothing, status_of}
use Rattle.sx_meaning.specs.Answers.{takes_no_input}
use Rattle.sx_meaning.specs.Findings.{Finding, Finds, malformed, no_fault, refused}
use Rattle.sx_meaning.specs.Laws.{FindsOne}
use Rattle.sx_meaning.specs.Status.{UnlessReadFails}
use Rattle.sx_meaning.proofs.Ends.{read_whole}
use Rattle.sx_run.specs.Running.{IsWritten, Tells, status_at}
use Rattle.sx_text.specs.declared.status.Status.{Status}
use Rattle.sx_text.specs.declared.status.Status.TheVariants as status
use Rattle.sx_words.specs.declared.command.Command.{Command}

-- ---- the answer

written : (command : Command) (a b old new : Option (List ℕ)) (text : List ℕ) (s : Status)
    → MayWriteIn command a b text → IsWritten old new text s → Answers command a b old new s
written command a b old new text status.Done finds is = (text, finds, is)
written command a b old new text status.WriteFault finds is = (text, finds, is)
written command a b old new text status.Usage finds is = absurd is
written command a b old new text status.ReadFault finds is = absurd is
written command a b old new text (status.Malformed fault) finds is = absurd is
written command a b old new text (status.Refused number why) finds is = absurd is
written command a b old new text status.NoMemory finds is = absurd is

stopped : (command : Command) (a b old new : Option (List ℕ)) (s : Stop) → Found command a b (Err s)
    → Answers command a b old new (status_at s)
stopped command a b old new stop.NoMemory found = tt
stopped command a b old new stop.ReadFault found = tt
stopped command a b old new (stop.Malformed fault) found = found
stopped command a b old new (stop.Refused number why) found = found

pub answers : (command : Command) (a b old new : Option (List ℕ)) (r : Result (List ℕ) Stop) (s : Status)
    → Found command a b r → Tells r old new s → Answers command a b old new s
answers command a b old new (Ok text) s found tells = written command a b old new text s found tells
answers command a b old new (Err why) s found tells = rw tells (stopped command a b old new why found)

-- no command answers Usage
pub never_usage : (r : Result (List ℕ) Stop) (old new : Option (List ℕ)) → Tells r old new status.Usage → ⊥
never_usage (Ok text) old new tells = tells
never_usage (Err stop.NoMemory) old new tells = absurd cc
never_usage (Err stop.ReadFault) old new tells = absurd cc
never_usage (Err (stop.Malformed fault)) old new tells = absurd cc
never_usage (Err (stop.Refused number why)) old new tells = absurd cc

-- ---- the input

pub was_read : (command : Command) (a b old new : Option (List ℕ)) (r : Result (List ℕ) Stop) (s : Status)
    → (IsTrue (takes_no_input command) → b ≡ a) → Found command a b r → Tells r old new s → s ≡ status.Done
    → IsRead command a b
was_read command a b old new (Ok text) s same found tells done = read_whole command a b text same found
was_read command a b old new (Err stop.NoMemory) s same found tells done = absurd cc
was_read command a b old new (Err stop.ReadFault) s same found tells done = absurd cc
was_read command a b old new (Err (stop.Malformed fault)) s same found tells done = absurd cc
was_read command a b old new (Err (stop.Refused number why)) s same found tells done = absurd cc

read_failed : (r : Result (List ℕ) Stop) (old new : Option (List ℕ)) → Tells r old new status.ReadFault
    → r ≡ Err stop.ReadFault
read_failed (Ok text) old new tells = absurd tells
read_failed (Err stop.NoMemory) old new tells = absurd cc
read_failed (Err stop.ReadFault) old new tells = refl
read_failed (Err (stop.Malformed fault)) old new tells = absurd cc
read_failed (Err (stop.Refused number why)) old new tells = absurd cc

pub was_read_fault : (r : Result (List ℕ) Stop) (old new : Option (List ℕ)) (s : Status) → Tells r old new s
    → s ≡ status.ReadFault → r ≡ Err stop.ReadFault
was_read_fault r old new s tells is = read_failed r old new (rw is at tells)

pub steady_then : (r : Result (List ℕ) Stop) (old new : Option (List ℕ)) (s : Status) (Fact : Type 0)
    → Tells r old new s → UnlessReadFault r Fact → UnlessReadFails s Fact
steady_then (Ok text) old new status.Done Fact tells fact = fact
steady_then (Ok text) old new status.WriteFault Fact tells fact = fact
steady_then (Ok text) old new status.Usage Fact tells fact = absurd tells
steady_then (Ok text) old new status.ReadFault Fact tells fact = absurd tells
steady_then (Ok text) old new (status.Malformed fault) Fact tells fact = absurd tells
steady_then (Ok text) old new (status.Refused number why) Fact tells fact = absurd tells
steady_then (Ok text) old new status.NoMemory Fact tells fact = absurd tells
steady_then (Err stop.NoMemory) old new s Fact tells fact = rw tells fact
steady_then (Err stop.ReadFault) old new s Fact tells fact = rw tells tt
steady_then (Err (stop.Malformed fault)) old new s Fact tells fact = rw tells fact
steady_then (Err (stop.Refused number why)) old new s Fact tells fact = rw tells fact

-- ---- completeness

one_status : FindsOne → (command : Command) (bytes left right : List ℕ) (one other : Finding)
    → Finds command bytes one left → Finds command bytes other right → status_of one ≡ status_of other
one_status finds_one command bytes left right one other x y =
    ap status_of (finds_one command bytes one other left right x y).0

pub completes : FindsOne → (command : Command) (a b old new : Option (List ℕ)) (s : Status)
    → Answers command a b old new s → (s ≡ status.ReadFault → ⊥) → (s ≡ status.WriteFault → ⊥) → Completes command a s
completes one command None b old new s answer no_read no_write = tt
completes one command (Some bytes) b old new status.Done answer no_read no_write = λ found left finds.
    inl (one_status one command bytes _ left no_fault found answer.1.1.found finds)
completes one command (Some bytes) b old new status.Usage answer no_read no_write = absurd answer
completes one command (Some bytes) b old new status.ReadFault answer no_read no_write = absurd (no_read refl)
completes one command (Some bytes) b old new status.WriteFault answer no_read no_write = absurd (no_write refl)
completes one command (Some bytes) b old new (status.Malformed fault) answer no_read no_write = λ found left finds.
    inl (one_status one command bytes _ left (malformed fault) found answer.1 finds)
completes one command (Some bytes) b old new (status.Refused number why) answer no_read no_write =
    λ found left finds. inl (one_status one command bytes _ left (refused number why) found answer.1 finds)
completes one command (Some bytes) b old new status.NoMemory answer no_read no_write = λ found left finds. inr refl

-- ---- words

pub for_command : (o : Option Command) (command : Command) (Fact : Command → Type 0) → o ≡ Some command → Fact command
    → IfSome o Fact
for_command o command Fact is fact = rw is fact

pub for_none : (o : Option Command) (Fact : Command → Type 0) → o ≡ None → IfSome o Fact
for_none o Fact is = rw is tt

-- where words are this command, they read nothing only as it does
pub unread_then : (o : Option Command) (command : Command) (Fact : Type 0) → o ≡ Some command
    → (IsTrue (takes_no_input command) → Fact) → IsTrue (reads_nothing o) → Fact
unread_then o command Fact is fact none = fact (rw is at none)

fits_command : (command : Command) (s : Status) → (s ≡ status.Usage → ⊥) → FitsWords (Some command) s
fits_command command status.Done never = tt
fits_command command status.Usage never = never refl
fits_command command status.ReadFault never = tt
fits_command command status.WriteFault never = tt
fits_command command (status.Malformed fault) never = tt
fits_command command (status.Refused number why) never = tt
fits_command command status.NoMemory never = tt

pub fits : (o : Option Command) (command : Command) (r : Result (List ℕ) Stop) (old new : Option (List ℕ)) (s : Status)
    → o ≡ Some command → Tells r old new s → FitsWords o s
fits o command r old new s is tells =
    rw is (fits_command command s (λ e. never_usage r old new (rw e at tells)))

pub fits_usage : (o : Option Command) → o ≡ None → FitsWords o status.Usage
fits_usage o is = rw is tt

pub fits_no_memory : (o : Option Command) → FitsWords o status.NoMemory
fits_no_memory None = tt
fits_no_memory (Some command) = tt

pub answers_no_memory : (o : Option Command) (a b old new : Option (List ℕ)) → IfSome o (λ command. Answers command a b
    old new status.NoMemory)
answers_no_memory None a b old new = tt
answers_no_memory (Some command) a b old new = tt

no_memory_completes : (command : Command) (a : Option (List ℕ)) → Completes command a status.NoMemory
no_memory_completes command None = tt
no_memory_completes command (Some bytes) = λ found left finds. inr refl

pub completes_no_memory : (o : Option Command) (a : Option (List ℕ)) → IfSome o (λ command. Completes command a
    status.NoMemory)
completes_no_memory None a = tt
completes_no_memory (Some command) a = no_memory_completes command a
