-- What `clap` reads of the words of a demonstration.
use Rattle.std.proofs.Common.{◌≡◌, ◌∙◌, ap, refl, codes, ℕ, ◌-◌, ◌^◌, Bool, true, false, List, [], ◌∷◌, ◌++◌}
use Rattle.std.proofs.Common.{Option, Some, None, arith}
use Rattle.clap.specs.Words.{Row, one_of, subcommand_of, subcommand_rows_of, takes}
use Rattle.clap.specs.ValueTests.{accepts}
use Rattle.clap.specs.Walk.{Held, finished}
use Rattle.clap.specs.declared.builder.value_parser.ValueParser.TheVariants as parser
use Rattle.clap.specs.declared.parser.matches.ArgMatches.{ArgMatches}
use Rattle.sx_words.specs.Numbers.{Text}
use Rattle.sx_words.specs.Program.{program, id_of}
use Rattle.std.specs.Prelude.{Ok}
use Rattle.sx_words.specs.Reading.{HasNumber, IsGiven, IsReadAs, IsNumber, begun, demo_from, option_words, text_in}
use Rattle.sx_words.specs.Commands.{Answers}
use Rattle.sx_words.specs.declared.command.Command.TheVariants.{Demo}
use Rattle.sx_words.specs.declared.setting.Setting.TheVariants.{Workers}
use Rattle.sx_words.proofs.NumberLaws.{number_is}
use Rattle.sx_words.proofs.WalkLaws.{HasWalked, IsPlainWord}
use Rattle.sx_words.proofs.ProveLaws.{HasNumberFirst, number_held, number_taken, number_walked}
use Rattle.sx_words.proofs.ProgramLaws.{IsTaken, text_or, after, test_after, ends, demo_shape, demo_option}
use Rattle.sx_words.proofs.ProgramLaws.{enters_demo, walked_given, takes_by, level_by, rows_by}
use Rattle.sx_words.proofs.TakenNumbers.{given_taken, given_range, has_option}

demo_number : HasNumberFirst demo_shape (codes "number")
demo_number = record { taken = λ n. refl; passes = refl }

abbrev demo_held : Text → Option Text → Held
demo_held n w = after demo_shape Workers w (number_held (codes "number") n)

abbrev demo_test : Text → Option Text → Bool
demo_test n w = test_after demo_shape w (number_held (codes "number") n) true

demo_walked : (n : Text) (w : Option Text) → IsPlainWord n → IsTaken Workers w
    → HasWalked demo_shape ((n ∷ []) ++ option_words Workers w) (demo_held n w) 2 (demo_test n w)
demo_walked n w is_n is_w =
    walked_given demo_shape (n ∷ []) (number_held (codes "number") n) 2 true Workers w demo_option is_w
    (number_walked demo_shape (codes "number") n demo_number is_n)

demo_ends : (n : Text) (w : Option Text) → accepts false (parser.Unsigned 0 (2 ^ 64 - 1)) n ≡ true → IsTaken Workers w
    → ends demo_shape (demo_held n w) (demo_test n w) ≡ true
demo_ends n None is_n is_w = rw is_n refl
demo_ends n (Some w) is_n is_w = rw (is_n, is_w.1) refl

-- the rows of a demonstration
record ReadsDemo (rows : List Row) (n : Text) (w : Option Text) : Type 0 where
  pub number : one_of (codes "number") rows ≡ Some n
  pub workers : one_of (id_of Workers) rows ≡ Some (text_or Workers w)

demo_reads : (n : Text) (w : Option Text) → ReadsDemo (finished demo_shape.rules (demo_held n w)) n w
demo_reads n None = record { number = refl; workers = refl }
demo_reads n (Some w) = record { number = refl; workers = refl }

abbrev pub demo_words : Text → Option Text → List Text
demo_words n w = (begun (codes "demo") ++ n ∷ []) ++ option_words Workers w

pub takes_demo : (n : Text) (w : Option Text) → IsNumber n → IsGiven Workers w → takes program (demo_words n w) ≡ true
takes_demo n w a b =
    let is_n = number_taken n a in
    let is_w = given_taken Workers w b in
    takes_by (codes "demo") demo_shape _ enters_demo (level_by demo_shape _ _ 2 _
    (demo_walked n w is_n.0 is_w) (demo_ends n w is_n.1 is_w))

-- the numbers that the matches have
pub demo_numbers : (n : Text) (w : Option Text) (a : IsNumber n) (b : IsGiven Workers w) (matches : ArgMatches)
    → subcommand_rows_of matches ≡ subcommand_of program (demo_words n w)
    → HasNumber (codes "number") matches a.0 × IsReadAs Workers matches b.0
demo_numbers n w a b matches is =
    let walked = demo_walked n w (number_taken n a).0 (given_taken Workers w b) in
    let met = is ∙ rows_by (codes "demo") demo_shape _ _ 2 _ enters_demo walked in
    let rows = demo_reads n w in (
      (0, 2 ^ 64 - 1, n, omega arith, a.1, ap (text_in (codes "number")) met ∙ rows.number),
      has_option Workers w b matches _ _ met rows.workers,
    )

pub demo_answers : (n : Text) (w : Option Text) (a : IsNumber n) (b : IsGiven Workers w) (number workers : ℕ)
    → number ≡ a.0 → workers ≡ b.0 → Answers (demo_from n w) (Ok (Demo number workers))
demo_answers n w a b number workers e f =
    let t = number_is 0 (2 ^ 64 - 1) a.0 n a.1 in
    rw (e, f) (rw (a.1, b.1) refl, (omega (arith, t.3), given_range Workers w b))
