-- Numbers in plain decimal, as `clap` takes and reads them.
use Rattle.std.proofs.Common.{◌≡◌, ◌∙◌, ℕ, ◌<◌, ◌^◌, ◌==◌, false, true, [], ◌∷◌, Result, Ok, Err, Option, Some, None}
use Rattle.std.proofs.Common.{List, option_map}
use Rattle.std.proofs.Common.{arith, sym, ap, refl}
use Rattle.std.proofs.lemmas.Bool.Decides.{nat_tests}
use Rattle.std.proofs.lemmas.Str.Parse.{not_in_digits, without_leading_plus_none}
use Rattle.std.specs.Str.Parse.{ParsesUnsigned}
use Rattle.clap.specs.Words.{ReadsOne, Row, one_of}
use Rattle.std.specs.Prelude.{is_some, option_and_then, unwrap_or, ◌≤◌}
use Rattle.clap.specs.Words.{subcommand_rows_of}
use Rattle.clap.specs.declared.parser.matches.ArgMatches.{ArgMatches}
use Rattle.sx_words.specs.Program.{id_of, default_text}
use Rattle.sx_words.specs.Settings.{least_of, most_of, default_of, Takes}
use Rattle.sx_words.specs.declared.setting.Setting.{Setting}
use Rattle.sx_words.specs.declared.setting.Setting.TheVariants.{Workers, Shards, Mu, Rounds, Searches}
use Rattle.sx_words.specs.Reading.{IsGiven, IsReadAs, text_in}
use Rattle.sx_words.proofs.ProgramLaws.{IsTaken, text_or}
use Rattle.clap.specs.ValueTests.{accepts}
use Rattle.clap.specs.declared.builder.value_parser.ValueParser.TheVariants as parser
use Rattle.clap.proofs.ValueTestLemmas.{Accepts-accepts}
use Rattle.sx_words.specs.Numbers.{Text, is_numeral, number_in}
use Rattle.sx_words.proofs.NumberLaws.{IsBare, model, numeral_then, no_sign, number_is, read, unread}
use Rattle.sx_words.proofs.WalkLaws.{IsPlainWord, not_long, not_short, not_dashes}

no_hyphen : (code : ℕ) (rest : Text) → is_numeral (code ∷ rest) ≡ true → (code == 45) ≡ false
no_hyphen code rest is =
    let t = numeral_then (code ∷ rest) is in
    let differs = not_in_digits model (code ∷ rest) 45 t.0 (λ range. omega arith) 0 t.1 in
    grind (arith, nat_tests, differs)

-- a number begins with no hyphen
pub plain_numeral : (text : Text) → is_numeral text ≡ true → IsPlainWord text
plain_numeral [] is = absurd (cc)
plain_numeral (code ∷ rest) is =
    let differs = no_hyphen code rest is in record {
      long = not_long code rest differs;
      short = not_short code rest differs;
      dashes = not_dashes code rest differs;
    }

-- `clap` takes a number in its range
pub takes_number : (least most number : ℕ) (text : Text) → most < 2 ^ 64 → number_in least most text ≡ Some number
    → IsPlainWord text × (accepts false (parser.Unsigned least most) text ≡ true)
takes_number least most number text below is =
    let t = number_is least most number text is in
    let n = numeral_then text t.0 in
    let same = without_leading_plus_none text (no_sign text t.0) in (
      plain_numeral text t.0,
      Accepts-accepts false (parser.Unsigned least most) text (rw same (
        (n.1, model.to text n.0),
        omega (arith, t.1, t.3),
        omega (arith, t.1, t.2),
        omega (arith, t.1, t.3),
      )),
    )

-- and the number is read from it
pub reads_number : {E : Type 0} (G : Text → Result ℕ E → Type 0) (least most number : ℕ) (text : Text)
    (r : Option ℕ) → ((u : Text) (x : Result ℕ E) → G u x → ParsesUnsigned 64 10 u x) → most < 2 ^ 64
    → number_in least most text ≡ Some number → ReadsOne G text r → r ≡ Some number
reads_number {E} G least most number text (Some n) parses below is reads =
    let t = number_is least most number text is in
    let bare : IsBare text = (no_sign text t.0, (numeral_then text t.0).2) in
    let got = read {E = E} text (Ok n) n (parses text (Ok n) reads) refl bare in
    ap (λ (x : ℕ). Some x) (sym got.1 ∙ t.1)
reads_number {E} G least most number text None parses below is reads =
    let t = number_is least most number text is in
    let bare : IsBare text = (no_sign text t.0, (numeral_then text t.0).2) in
    let none = unread {E = E} least most text (Err reads.0) reads.0
    (parses text (Err reads.0) reads.1) refl bare below in
    absurd (cc)

-- the text of an argument, by the rows of the subcommand
pub text_rows : (id : Text) (met : Option (Text × List Row))
    → text_in id met ≡ option_and_then (one_of id) (option_map (λ p. p.1) met)
text_rows id None = refl
text_rows id (Some p) = refl

-- ---- options that may be given

below : (setting : Setting) → most_of setting < 2 ^ 64
below Workers = omega arith
below Shards = omega arith
below Mu = omega arith
below Rounds = omega arith
below Searches = omega arith

-- the default, as its text spells it
default_number : (setting : Setting)
    → number_in (least_of setting) (most_of setting) (default_text setting) ≡ Some (default_of setting)
unfolding number_in
default_number Workers = refl
default_number Shards = refl
default_number Mu = refl
default_number Rounds = refl
default_number Searches = refl

pub given_taken : (setting : Setting) (given : Option Text) → IsGiven setting given → IsTaken setting given
given_taken setting None is = tt
given_taken setting (Some word) is =
    takes_number (least_of setting) (most_of setting) is.0 word (below setting) is.1

pub given_number : (setting : Setting) (given : Option Text) (is : IsGiven setting given)
    → number_in (least_of setting) (most_of setting) (text_or setting given) ≡ Some is.0
given_number setting None is = default_number setting ∙ is.1
given_number setting (Some word) is = is.1

pub given_range : (setting : Setting) (given : Option Text) (is : IsGiven setting given) → Takes setting is.0
given_range setting given is =
    let t = number_is (least_of setting) (most_of setting) is.0 (text_or setting given)
    (given_number setting given is) in
    (t.2, t.3)

-- the matches have the number of an option
pub has_option : (setting : Setting) (given : Option Text) (is : IsGiven setting given) (matches : ArgMatches)
    (name : Text) (rows : List Row) → subcommand_rows_of matches ≡ Some (name, rows)
    → one_of (id_of setting) rows ≡ Some (text_or setting given) → IsReadAs setting matches is.0
has_option setting given is matches name rows met read = (
  given_range setting given is,
  (
    least_of setting,
    most_of setting,
    text_or setting given,
    below setting,
    given_number setting given is,
    ap (text_in (id_of setting)) met ∙ read,
  ),
)

-- ---- a number that was found

pub is_found : (r : Option ℕ) (n : ℕ) → r ≡ Some n → is_some r ≡ true
is_found r n is = rw is refl

pub same_number : (r : Option ℕ) (m n : ℕ) → r ≡ Some m → r ≡ Some n → m ≡ n
same_number r m n first second = ap (λ (o : Option ℕ). unwrap_or o m) (sym first ∙ second)

pub small : (setting : Setting) (number : ℕ) → Takes setting number → number ≤ 10000
small Workers number is = omega (arith, is.1)
small Shards number is = omega (arith, is.1)
small Mu number is = omega (arith, is.1)
small Rounds number is = is.1
small Searches number is = omega (arith, is.1)
