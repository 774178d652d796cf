-- What each answer says, from what `run` says of it.
use Rattle.std.proofs.Common.{◌≡◌, ◌≢◌, ◌⊎◌, ℕ, List, Option, Some, None, false, [], inl, inr, refl, subst}
use Rattle.std.specs.Prelude.{IfSome, IsTrue}
use Rattle.std.proofs.lemmas.Option.{same_Some}
use Rattle.sx_block.specs.declared.invalid.Invalid.{Invalid}
use Rattle.sx_bytes.specs.declared.fault.FormFault.{FormFault}
use Rattle.sx_customer.specs.Asked.{IsComplete, IsMalformed, WroteAll, WroteFirst}
use Rattle.sx_customer.proofs.Written.{of_command}
use Rattle.sx_meaning.specs.Answers.{Answers, Completes, FindsIn, FitsWords, IsRead, reads_nothing, takes_no_input}
use Rattle.sx_meaning.specs.Findings.{Finds, malformed, no_fault, refused}
use Rattle.sx_meaning.specs.Status.{UnlessReadFails, UnlessWriteFails, is_silent}
use Rattle.sx_text.specs.declared.status.Status.{Status}
use Rattle.sx_text.specs.declared.status.Status.TheVariants.{Done, Usage, ReadFault, WriteFault, Malformed, Refused}
use Rattle.sx_text.specs.declared.status.Status.TheVariants.{NoMemory}
use Rattle.sx_words.specs.declared.command.Command.{Command}
use Rattle.sx_words.specs.declared.command.Command.TheVariants.{Check, Demo, Filter, Follow, Interleave, Migrate, Prove}
use Rattle.sx_words.specs.declared.command.Command.TheVariants.{Replay, Seal, Show, Verify}

-- ---- words

none_asked : (words : Option Command) → FitsWords words Usage → words ≡ None
none_asked None fits = refl
none_asked (Some command) fits = absurd fits

pub usage : (words : Option Command) (result : Status) → FitsWords words result → result ≡ Usage → words ≡ None
usage words result fits is = none_asked words (subst (λ (s : Status). FitsWords words s) is fits)

answered_none : (result : Status) → FitsWords None result → (result ≡ Usage) ⊎ (result ≡ NoMemory)
answered_none Usage fits = inl refl
answered_none NoMemory fits = inr refl
answered_none Done fits = absurd fits
answered_none ReadFault fits = absurd fits
answered_none WriteFault fits = absurd fits
answered_none (Malformed fault) fits = absurd fits
answered_none (Refused number why) fits = absurd fits

pub unasked : (words : Option Command) (result : Status) → words ≡ None → FitsWords words result
    → (result ≡ Usage) ⊎ (result ≡ NoMemory)
unasked words result none fits =
    answered_none result (subst (λ (o : Option Command). FitsWords o result) none fits)

pub untouched : (words : Option Command) → words ≡ None → IsTrue (reads_nothing words)
untouched words none = rw none refl

silent_unasked : (result : Status) → (result ≡ Usage) ⊎ (result ≡ NoMemory) → IsTrue (is_silent result)
silent_unasked result either = elim either [ inl is ↦ rw is refl | inr is ↦ rw is refl ]

pub unwritten_unasked : (words : Option Command) (result : Status) → words ≡ None → FitsWords words result
    → IsTrue (is_silent result)
unwritten_unasked words result none fits = silent_unasked result (unasked words result none fits)

-- ---- the end of the source

read_whole : (command : Command) (input : List ℕ) (after : Option (List ℕ)) → takes_no_input command ≡ false
    → IsRead command (Some input) after → after ≡ Some []
read_whole Check input after takes read = read
read_whole (Replay workers) input after takes read = read
read_whole Interleave input after takes read = read
read_whole (Seal workers shards mu rounds searches) input after takes read = read
read_whole Show input after takes read = read
read_whole Migrate input after takes read = read
read_whole (Filter workers) input after takes read = read
read_whole (Prove id) input after takes read = read
read_whole Verify input after takes read = read
read_whole Follow input after takes read = read
read_whole (Demo number workers) input after takes read = absurd cc

pub whole : (words : Option Command) (command : Command) (input : List ℕ) (before after : Option (List ℕ))
    → words ≡ Some command → takes_no_input command ≡ false → before ≡ Some input
    → IfSome words (λ c. IsRead c before after) → after ≡ Some []
whole words command input before after asks takes told read =
    read_whole command input after takes
    (subst (λ (o : Option (List ℕ)). IsRead command o after) told
    (of_command words command asks (λ c. IsRead c before after) read))

-- of a source that tells its bytes none are left
pub emptied : (words : Option Command) (command : Command) (input after : List ℕ) → words ≡ Some command
    → takes_no_input command ≡ false → IfSome words (λ c. IsRead c (Some input) (Some after)) → after ≡ []
emptied words command input after asks takes read =
    same_Some after [] (whole words command input (Some input) (Some after) asks takes refl read)

-- ---- silence and faults

pub silent : (result : Status) → result ≢ Done → result ≢ WriteFault → IsTrue (is_silent result)
silent Done done fails = absurd (done refl)
silent WriteFault done fails = absurd (fails refl)
silent Usage done fails = refl
silent ReadFault done fails = refl
silent (Malformed fault) done fails = refl
silent (Refused number why) done fails = refl
silent NoMemory done fails = refl

pub steady_read : (result : Status) (fact : Type 0) → UnlessReadFails result fact → result ≢ ReadFault → fact
steady_read ReadFault fact holds fails = absurd (fails refl)
steady_read Done fact holds fails = holds
steady_read Usage fact holds fails = holds
steady_read WriteFault fact holds fails = holds
steady_read (Malformed fault) fact holds fails = holds
steady_read (Refused number why) fact holds fails = holds
steady_read NoMemory fact holds fails = holds

pub steady_write : (result : Status) (fact : Type 0) → UnlessWriteFails result fact → result ≢ WriteFault → fact
steady_write WriteFault fact holds fails = absurd (fails refl)
steady_write Done fact holds fails = holds
steady_write Usage fact holds fails = holds
steady_write ReadFault fact holds fails = holds
steady_write (Malformed fault) fact holds fails = holds
steady_write (Refused number why) fact holds fails = holds
steady_write NoMemory fact holds fails = holds

-- ---- what the answers say

module _
    (words : Option Command) (command : Command) (asks : words ≡ Some command)
    (before after old new : Option (List ℕ)) (result : Status)
    (answer : IfSome words (λ c. Answers c before after old new result))
  where
    answers : (status : Status) → result ≡ status → Answers command before after old new status
    answers status is =
        subst (λ (s : Status). Answers command before after old new s) is
        (of_command words command asks (λ c. Answers c before after old new result) answer)

    pub cut_off : (input was now : List ℕ) → before ≡ Some input → old ≡ Some was → new ≡ Some now
        → result ≡ WriteFault → WroteFirst command input was now
    cut_off input was now read had has is =
        let told : Answers command (Some input) after (Some was) (Some now) WriteFault =
        subst (λ (o : Option (List ℕ)). Answers command (Some input) after (Some was) o WriteFault) has
        (subst (λ (o : Option (List ℕ)). Answers command (Some input) after o new WriteFault) had
        (subst (λ (o : Option (List ℕ)). Answers command o after old new WriteFault) read (answers WriteFault is))) in
        record {
          text = told.0;
          left = told.1.0;
          count = told.2.0;
          may = told.1.1;
          within = told.2.1;
          appended = same_Some now _ told.2.2;
        }

    pub done_is : (input was now : List ℕ) → before ≡ Some input → old ≡ Some was → new ≡ Some now
        → result ≡ Done → WroteAll command input was now
    done_is input was now read had has is =
        let told : Answers command (Some input) after (Some was) (Some now) Done =
        subst (λ (o : Option (List ℕ)). Answers command (Some input) after (Some was) o Done) has
        (subst (λ (o : Option (List ℕ)). Answers command (Some input) after o new Done) had
        (subst (λ (o : Option (List ℕ)). Answers command o after old new Done) read (answers Done is))) in
        record { text = told.0; left = told.1.0; may = told.1.1; appended = same_Some now _ told.2 }

    pub done_untold : (was now : List ℕ) → before ≡ None → old ≡ Some was → new ≡ Some now → result ≡ Done
        → (input : List ℕ) × WroteAll command input was now
    done_untold was now read had has is =
        let told : Answers command None after (Some was) (Some now) Done =
        subst (λ (o : Option (List ℕ)). Answers command None after (Some was) o Done) has
        (subst (λ (o : Option (List ℕ)). Answers command None after o new Done) had
        (subst (λ (o : Option (List ℕ)). Answers command o after old new Done) read (answers Done is))) in
        let wrote : WroteAll command told.1.0 was now = record {
          text = told.0;
          left = told.1.1;
          may = told.1.2;
          appended = same_Some now _ told.2;
        } in
        (told.1.0, wrote)

    pub malformed_is : (input : List ℕ) (fault : FormFault) → before ≡ Some input → result ≡ Malformed fault
        → IsMalformed command input fault
    malformed_is input fault read is =
        let told : FindsIn command (Some input) after (malformed fault) =
        subst (λ (o : Option (List ℕ)). FindsIn command o after (malformed fault)) read
        (answers (Malformed fault) is) in
        let f : Finds command input (malformed fault) told.0 = told.1 in
        record { items = f.items; rest = f.rest; left = told.0; each = f.each; read = f.read; fails = f.finds }

    pub refused_is : (input : List ℕ) (number : ℕ) (why : Invalid) → before ≡ Some input → result ≡ Refused number why
        → (left : List ℕ) × Finds command input (refused number why) left
    refused_is input number why read is =
        let told : FindsIn command (Some input) after (refused number why) =
        subst (λ (o : Option (List ℕ)). FindsIn command o after (refused number why)) read
        (answers (Refused number why) is) in
        (told.0, told.1)

    pub refused_untold : (number : ℕ) (why : Invalid) → before ≡ None → result ≡ Refused number why
        → (input : List ℕ) × (left : List ℕ) × Finds command input (refused number why) left
    refused_untold number why untold is =
        subst (λ (o : Option (List ℕ)). FindsIn command o after (refused number why)) untold
        (answers (Refused number why) is)

pub completes : (words : Option Command) (command : Command) (before : Option (List ℕ)) (input : List ℕ)
    (result : Status) → words ≡ Some command → before ≡ Some input
    → IfSome words (λ c. Completes c before result) → IsComplete command input result
completes words command before input result asks read complete =
    let told : Completes command (Some input) result =
    subst (λ (o : Option (List ℕ)). Completes command o result) read
    (of_command words command asks (λ c. Completes c before result) complete) in
    record {
      done = λ left finds. told no_fault left finds;
      fault = λ fault left finds. told (malformed fault) left finds;
      refusal = λ number why left finds. told (refused number why) left finds;
    }
