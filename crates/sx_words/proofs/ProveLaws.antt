-- What `clap` reads of a number after a command's name, and of the words of a proof.
use Rattle.std.proofs.Common.{◌≡◌, ◌∙◌, ap, refl, codes, ℕ, ◌-◌, ◌^◌, true, false, List, [], ◌∷◌, ◌++◌, Some, arith}
use Rattle.clap.specs.Words.{Shape, one_of, subcommand_of, subcommand_rows_of, takes}
use Rattle.clap.specs.ValueTests.{accepts}
use Rattle.clap.specs.Walk.{Held, nothing_held, finished, value, after_step}
use Rattle.clap.specs.Takes.{walk_passes, step_passes}
use Rattle.clap.specs.declared.builder.value_parser.ValueParser.TheVariants as parser
use Rattle.clap.specs.declared.parser.matches.ArgMatches.{ArgMatches}
use Rattle.sx_words.specs.Numbers.{Text}
use Rattle.sx_words.specs.Program.{program}
use Rattle.std.specs.Prelude.{Ok}
use Rattle.sx_words.specs.Reading.{HasNumber, IsNumber, begun, prove_from, text_in}
use Rattle.sx_words.specs.Commands.{Answers}
use Rattle.sx_words.specs.declared.command.Command.TheVariants.{Prove}
use Rattle.sx_words.proofs.NumberLaws.{number_is}
use Rattle.sx_words.proofs.WalkLaws.{HasWalked, IsPlainWord, at, positional_walked, positional_turns}
use Rattle.sx_words.proofs.ProgramLaws.{ends, prove_shape, enters_prove, takes_by, level_by, rows_by}
use Rattle.sx_words.proofs.TakenNumbers.{takes_number}

-- ---- a number after a command's name

abbrev pub number_held : Text → Text → Held
number_held id n = record nothing_held { pending = Some (id, n ∷ []) }

-- the first word of the command is a number of this name
pub record HasNumberFirst (s : Shape) (id : Text) : Type 0 where
  pub taken : (n : Text) → after_step s.rules n (at nothing_held 1) nothing_held value ≡ at (number_held id n) 2
  pub passes : step_passes s 1 nothing_held value ≡ true

pub number_walked : (s : Shape) (id n : Text) → HasNumberFirst s id → IsPlainWord n
    → HasWalked s (n ∷ []) (number_held id n) 2 true
unfolding walk_passes
number_walked s id n has plain = record {
  walk = positional_walked s.rules n nothing_held 1 plain ∙ has.taken n;
  passes = λ e. rw (positional_turns s n nothing_held 1 plain, has.passes) refl;
}

pub number_taken : (n : Text) (a : IsNumber n)
    → IsPlainWord n × (accepts false (parser.Unsigned 0 (2 ^ 64 - 1)) n ≡ true)
number_taken n a = takes_number 0 (2 ^ 64 - 1) a.0 n (omega arith) a.1

-- ---- the words of a proof

prove_number : HasNumberFirst prove_shape (codes "id")
prove_number = record { taken = λ n. refl; passes = refl }

prove_ends : (n : Text) → accepts false (parser.Unsigned 0 (2 ^ 64 - 1)) n ≡ true
    → ends prove_shape (number_held (codes "id") n) true ≡ true
prove_ends n is_n = rw is_n refl

prove_reads : (n : Text) → one_of (codes "id") (finished prove_shape.rules (number_held (codes "id") n)) ≡ Some n
prove_reads n = refl

abbrev pub prove_words : Text → List Text
prove_words n = begun (codes "prove") ++ n ∷ []

pub takes_prove : (n : Text) → IsNumber n → takes program (prove_words n) ≡ true
takes_prove n a =
    let is_n = number_taken n a in
    takes_by (codes "prove") prove_shape _ enters_prove (level_by prove_shape _ _ 2 _
    (number_walked prove_shape (codes "id") n prove_number is_n.0) (prove_ends n is_n.1))

-- the number that the matches have
pub prove_numbers : (n : Text) (a : IsNumber n) (matches : ArgMatches)
    → subcommand_rows_of matches ≡ subcommand_of program (prove_words n) → HasNumber (codes "id") matches a.0
prove_numbers n a matches is =
    let walked = number_walked prove_shape (codes "id") n prove_number (number_taken n a).0 in
    let met = is ∙ rows_by (codes "prove") prove_shape _ _ 2 _ enters_prove walked in
    (0, 2 ^ 64 - 1, n, omega arith, a.1, ap (text_in (codes "id")) met ∙ prove_reads n)

pub prove_answers : (n : Text) (a : IsNumber n) (id : ℕ) → id ≡ a.0 → Answers (prove_from n) (Ok (Prove id))
prove_answers n a id e =
    let t = number_is 0 (2 ^ 64 - 1) a.0 n a.1 in
    rw e (rw a.1 refl, omega (arith, t.3))
