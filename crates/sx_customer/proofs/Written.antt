-- What was written of an input, where the answer is Done.
use Rattle.std.proofs.Common.{◌≡◌, ℕ, List, ◌++◌, Option, Some, sym, subst}
use Rattle.std.specs.Prelude.{IfSome}
use Rattle.std.proofs.lemmas.Option.{same_Some}
use Rattle.sx_meaning.specs.Answers.{Answers}
use Rattle.sx_meaning.specs.Outputs.{MayWrite}
use Rattle.sx_text.specs.declared.status.Status.{Status}
use Rattle.sx_text.specs.declared.status.Status.TheVariants.{Done}
use Rattle.sx_words.specs.declared.command.Command.{Command}

-- a text that the command may write came after what was there
pub record Wrote (command : Command) (before after old new : List ℕ) : Type 0 where
  pub text : List ℕ
  pub appended : new ≡ old ++ text
  pub may : MayWrite command before text after

module _ (words : Option Command) (command : Command) (asks : words ≡ Some command) where
  -- what holds of the command that the words ask for
  pub of_command : (P : Command → Type 0) → IfSome words P → P command
  of_command P told = subst (λ (o : Option Command). IfSome o P) asks told

  pub wrote : (before after old new : List ℕ) (result : Status)
      → IfSome words (λ c. Answers c (Some before) (Some after) (Some old) (Some new) result)
      → result ≡ Done → Wrote command before after old new
  wrote before after old new result answer done =
      let told : Answers command (Some before) (Some after) (Some old) (Some new) Done =
      subst (λ (s : Status). Answers command (Some before) (Some after) (Some old) (Some new) s) done
      (of_command (λ c. Answers c (Some before) (Some after) (Some old) (Some new) result) answer) in
      record {
        text = told.0;
        appended = same_Some new (old ++ told.0) told.2;
        may = subst (λ (l : List ℕ). MayWrite command before told.0 l)
            (sym (same_Some after told.1.0 told.1.2)) told.1.1;
      }
