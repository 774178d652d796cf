-- Options, as words spell them.
use Rattle.std.proofs.Common.{◌≡◌, ℕ, ◌+◌, ◌<◌, true, false, List, [], ◌∷◌, ◌++◌, length, Option, Some, None, arith}
use Rattle.std.proofs.Common.{refl, subst, zero, suc}
use Rattle.std.proofs.Common.{ap, sym, ◌∙◌, Bor, Vec, get_or, drop, append_assoc, add-one}
use Rattle.std.proofs.lemmas.List.{map-append}
use Rattle.std.proofs.lemmas.List.Elements.{All-push}
use Rattle.std.proofs.Math.Seq.{drop-cons}
use Rattle.std.specs.Global.{Global}
use Rattle.std.proofs.lemmas.Bool.Decides.{nat_tests}
use Rattle.std.specs.List.{All, list_any, position_or_len}
use Rattle.std.specs.Prelude.{IfNone, IfSome, MatchOption, String, string_bytes, is_some, option_and_then, option_map}
use Rattle.sx_words.specs.declared.options.Choice.{Choice}
use Rattle.sx_words.specs.declared.options.Written.{Written}
use Rattle.sx_words.specs.declared.setting.Setting.{Setting}
use Rattle.sx_words.specs.Numbers.{Text, number_in, texts}
use Rattle.sx_words.specs.Reading.{IsGiven, IsWritten, choice_in, choices_in, number_of, text_of}
use Rattle.sx_words.specs.Settings.{least_of, most_of}
use Rattle.sx_words.specs.declared.setting.Setting.TheVariants.{Workers, Shards, Mu, Rounds, Searches}
use Rattle.sx_words.specs.contracts.setting.Setting.{the_type}
use denote.Enum.Bare.{sameb}
use Rattle.sx_words.specs.Options.{◌>>=◌, Given, is_equals, parted_at_equals, and_more, given_in, choice_of}
use Rattle.sx_words.specs.Options.{choices_of, read_options, numbers_for, is_same}

-- the number that was found, if one was
abbrev pub numbers_in : Option ℕ → List ℕ
numbers_in None = []
numbers_in (Some number) = number ∷ []

-- the number of an option, if it is given
abbrev pub numbers_given : Setting → Option Text → List ℕ
numbers_given setting None = []
numbers_given setting (Some number) = numbers_in (number_of setting (Some number))

-- the name that waits for its number, as words
abbrev pub waiting : Option (Bor Text) → List Text
waiting None = []
waiting (Some name) = name.now ∷ []

-- ---- where `=` is

pub some_equals : (text : Text) → position_or_len is_equals text < length text → list_any is_equals text ≡ true
some_equals [] within = absurd (omega arith)
some_equals (code ∷ rest) within = grind (arith, nat_tests, some_equals rest)

pub no_equals : (text : Text) → position_or_len is_equals text ≡ length text → list_any is_equals text ≡ false
no_equals [] whole = refl
no_equals (code ∷ rest) whole = grind (arith, nat_tests, no_equals rest)

pub whole_of : {X : Type 0} (r : Option X) (text : Text) (Q : X → Type 0)
    → MatchOption r (position_or_len is_equals text ≡ length text) Q → IfNone r (list_any is_equals text ≡ false)
whole_of None text Q matched = no_equals text matched
whole_of (Some x) text Q matched = tt

-- ---- one option after another

-- a choice before others, where both are there
abbrev pub before : Option Choice → Option (List Choice) → Option (List Choice)
before None more = None
before (Some choice) None = None
before (Some choice) (Some rest) = Some (choice ∷ rest)

-- choices before others
abbrev pub onto : List Choice → Option (List Choice) → Option (List Choice)
onto choices None = None
onto choices (Some rest) = Some (choices ++ rest)

read_more : (settings : List Setting) (given : Given) (choice : Option Choice) (more : Option (List Given))
    → choice_of settings given ≡ choice
    → option_and_then (choices_of settings) (and_more given more)
    ≡ before choice (option_and_then (choices_of settings) more)
read_more settings given None None is = refl
read_more settings given (Some choice) None is = refl
read_more settings given None (Some rest) is = rw is refl
read_more settings given (Some choice) (Some rest) is =
    rw is (elim (choices_of settings rest) as (λ more. (more >>= λ others. Some (choice ∷ others))
    ≡ before (Some choice) more) [
      | None ↦ refl
      | Some others ↦ refl
    ])

pub of_two_words : (settings : List Setting) (name word : Text) (rest : List Text) → list_any is_equals name ≡ false
    → read_options settings (name ∷ word ∷ rest)
    ≡ before (choice_of settings (record { name = name; number = word })) (read_options settings rest)
of_two_words settings name word rest plain =
    rw plain (read_more settings (record { name = name; number = word }) _ (given_in rest) refl)

pub of_one_word : (settings : List Setting) (word : Text) (rest : List Text) → list_any is_equals word ≡ true
    → read_options settings (word ∷ rest)
    ≡ before (choice_of settings (parted_at_equals word)) (read_options settings rest)
of_one_word settings word [] joined = rw joined (read_more settings (parted_at_equals word) _ (Some []) refl)
of_one_word settings word (next ∷ rest) joined =
    rw joined (read_more settings (parted_at_equals word) _ (given_in (next ∷ rest)) refl)

pub of_a_name : (settings : List Setting) (name : Text) → list_any is_equals name ≡ false
    → read_options settings (name ∷ []) ≡ None
of_a_name settings name plain = rw plain refl

-- ---- the words that are left

pub words_left : (words : List (String Global)) (i : ℕ) (word : String Global) → i < length words
    → word ≡ get_or words i word
    → texts (drop i words) ≡ string_bytes word ∷ texts (drop (i + 1) words)
words_left words i word within is =
    ap texts (drop-cons words i word within) ∙ rw (← is, add-one) refl

pub two_left : (settings : List Setting) (o : Option (Bor Text)) (name : Bor Text) (words : List (String Global))
    (i : ℕ)
    (word : String Global) (text : Text) → o ≡ Some name → IfSome o (λ n. list_any is_equals n.now ≡ false)
    → i < length words → word ≡ get_or words i word → text ≡ string_bytes word
    → read_options settings (waiting o ++ texts (drop i words))
    ≡ before (choice_of settings (record {
      name = name.now;
      number =
          text;
    })) (read_options settings (texts (drop (i + 1) words)))
two_left settings o name words i word text some plain within is spells =
    rw (some, words_left words i word within is, spells)
    (of_two_words settings name.now (string_bytes word) (texts (drop (i + 1) words)) (rw some at plain))

pub one_left : (settings : List Setting) (o : Option (Bor Text)) (words : List (String Global)) (i : ℕ)
    (word : String Global) (text : Text) (given : Given) → o ≡ None → i < length words → word ≡ get_or words i word
    → text ≡ string_bytes word → (list_any is_equals text ≡ true) × (parted_at_equals text ≡ given)
    → read_options settings (waiting o ++ texts (drop i words))
    ≡ before (choice_of settings given) (read_options settings (texts (drop (i + 1) words)))
one_left settings o words i word text given none within is spells parts =
    rw (none, words_left words i word within is, ← spells, ← parts.1)
    (of_one_word settings text (texts (drop (i + 1) words)) parts.0)

pub name_left : (settings : List Setting) (o : Option (Bor Text)) (words : List (String Global)) (i : ℕ)
    (word : String Global) (text : Bor Text) → o ≡ None → i < length words → word ≡ get_or words i word
    → text.now ≡ string_bytes word
    → read_options settings (waiting o ++ texts (drop i words))
    ≡ read_options settings (waiting (Some text) ++ texts (drop (i + 1) words))
name_left settings o words i word text none within is spells =
    rw (none, words_left words i word within is, ← spells) refl

-- one choice more
pub onto_more : (choices : List Choice) (choice : Choice) (o : Option Choice) (more : Option (List Choice))
    → o ≡ Some choice
    → onto choices (before o more) ≡ onto (choices ++ choice ∷ []) more
onto_more choices choice o None is = rw is refl
onto_more choices choice o (Some rest) is = rw is (ap (λ (x : List Choice). Some x) (sym (append_assoc choices
    (choice ∷ []) rest)))

pub onto_none : (choices : List Choice) (o : Option Choice) (more : Option (List Choice)) → o ≡ None
    → onto choices (before o more) ≡ None
onto_none choices o more is = rw is refl

abbrev pub items_of : Vec Written Global → List Written
items_of given = given.items

-- what has been read of the words before the one at i: the options, and the name that waits for its number
pub record HasRead (settings : List Setting) (words : List (String Global)) (i : ℕ) (given : List Written)
    (name : Option (Bor Text)) : Type 0 where
  pub read : read_options settings (texts words)
      ≡ onto (choices_in given) (read_options settings (waiting name ++ texts (drop i words)))
  pub range : All IsWritten given
  pub plain : IfSome name (λ n. list_any is_equals n.now ≡ false)

-- one option more
pub and_choice : (settings : List Setting) (words : List (String Global)) (i : ℕ) (given more : List Written)
    (o after : Option (Bor Text)) (next : Given) (found : Option Written) (one : Written)
    → HasRead settings words i given o
    → read_options settings (waiting o ++ texts (drop i words))
    ≡ before (choice_of settings next) (read_options settings (texts (drop (i + 1) words)))
    → option_map choice_in found ≡ choice_of settings next → found ≡ Some one → IfSome found IsWritten
    → more ≡ given ++ one ∷ [] → after ≡ None
    → HasRead settings words (i + 1) more after
and_choice settings words i given more o after next found one has left is some fits grown none =
    let fit : IsWritten one = rw some at fits in
    let chosen : choice_of settings next ≡ Some one.choice = sym is ∙ ap (option_map choice_in) some in
    let same : choices_in more ≡ choices_in given ++ one.choice ∷ [] =
    ap choices_in grown ∙ map-append choice_in given (one ∷ []) in
    record {
      read = has.read ∙ ap (onto (choices_in given)) left
          ∙ onto_more (choices_in given) one.choice _ _ chosen ∙ rw (same, none) refl;
      range = rw grown (All-push IsWritten given one has.range fit);
      plain = rw none tt;
    }

-- the name of an option more
pub and_name : (settings : List Setting) (words : List (String Global)) (i : ℕ) (given more : List Written)
    (o after : Option (Bor Text)) (name : Bor Text) → HasRead settings words i given o
    → read_options settings (waiting o ++ texts (drop i words))
    ≡ read_options settings (waiting (Some name) ++ texts (drop (i + 1) words))
    → list_any is_equals name.now ≡ false → more ≡ given → after ≡ Some name
    → HasRead settings words (i + 1) more after
and_name settings words i given more o after name has left plain same some = record {
  read = has.read ∙ ap (onto (choices_in given)) left ∙ rw (same, some) refl;
  range = rw same has.range;
  plain = rw some plain;
}

-- ---- the word of an option

pub same_is : (a b : Setting) → sameb the_type a b ≡ is_same a b
same_is Workers Workers = refl
same_is Workers Shards = refl
same_is Workers Mu = refl
same_is Workers Rounds = refl
same_is Workers Searches = refl
same_is Shards Workers = refl
same_is Shards Shards = refl
same_is Shards Mu = refl
same_is Shards Rounds = refl
same_is Shards Searches = refl
same_is Mu Workers = refl
same_is Mu Shards = refl
same_is Mu Mu = refl
same_is Mu Rounds = refl
same_is Mu Searches = refl
same_is Rounds Workers = refl
same_is Rounds Shards = refl
same_is Rounds Mu = refl
same_is Rounds Rounds = refl
same_is Rounds Searches = refl
same_is Searches Workers = refl
same_is Searches Shards = refl
same_is Searches Mu = refl
same_is Searches Rounds = refl
same_is Searches Searches = refl

same_then : (a b : Setting) → is_same a b ≡ true → a ≡ b
same_then Workers Workers is = refl
same_then Workers Shards is = absurd (cc)
same_then Workers Mu is = absurd (cc)
same_then Workers Rounds is = absurd (cc)
same_then Workers Searches is = absurd (cc)
same_then Shards Workers is = absurd (cc)
same_then Shards Shards is = refl
same_then Shards Mu is = absurd (cc)
same_then Shards Rounds is = absurd (cc)
same_then Shards Searches is = absurd (cc)
same_then Mu Workers is = absurd (cc)
same_then Mu Shards is = absurd (cc)
same_then Mu Mu is = refl
same_then Mu Rounds is = absurd (cc)
same_then Mu Searches is = absurd (cc)
same_then Rounds Workers is = absurd (cc)
same_then Rounds Shards is = absurd (cc)
same_then Rounds Mu is = absurd (cc)
same_then Rounds Rounds is = refl
same_then Rounds Searches is = absurd (cc)
same_then Searches Workers is = absurd (cc)
same_then Searches Shards is = absurd (cc)
same_then Searches Mu is = absurd (cc)
same_then Searches Rounds is = absurd (cc)
same_then Searches Searches is = refl

drop_split : (xs : List Written) (i : ℕ) (d : Written) → i < length xs → drop i xs ≡ get_or xs i d ∷ drop (suc i) xs
drop_split [] i d within = absurd (omega arith)
drop_split (x ∷ xs) zero d within = refl
drop_split (x ∷ xs) (suc i) d within = drop_split xs i d (omega arith)

-- the numbers of an option before and at the place i, and those still to come
pub record HasFound (setting : Setting) (given : List Written) (i : ℕ) (word : Option (Bor Text)) : Type 0 where
  pub numbers : numbers_for setting (choices_in given)
      ≡ numbers_given setting (text_of word) ++ numbers_for setting (choices_in (drop i given))
  pub range : IsGiven setting (text_of word)

pub found_one : (setting : Setting) (given : List Written) (i : ℕ) (d : Written) (before after : Option (Bor Text))
    → i < length given → IsWritten (get_or given i d) → is_same (get_or given i d).choice.setting setting ≡ true
    → is_some before ≡ false → after ≡ Some (get_or given i d).word → HasFound setting given i before
    → HasFound setting given (i + 1) after
found_one setting given i d (Some word) after within written same none some has = absurd (cc)
found_one setting given i d None after within written same none some has =
    let one = get_or given i d in
    let spelled : number_in (least_of setting) (most_of setting) one.word.now ≡ Some one.choice.number =
    subst (λ (s : Setting). number_in (least_of s) (most_of s) one.word.now ≡ Some one.choice.number)
    (same_then one.choice.setting setting same) written in
    record {
      numbers = has.numbers ∙ ap (λ l. numbers_for setting (choices_in l)) (drop_split given i d within)
          ∙ rw (same, some, spelled, add-one) refl;
      range = rw some (one.choice.number, spelled);
    }

pub found_other : (setting : Setting) (given : List Written) (i : ℕ) (d : Written) (before after : Option (Bor Text))
    → i < length given → is_same (get_or given i d).choice.setting setting ≡ false
    → after ≡ before → HasFound setting given i before → HasFound setting given (i + 1) after
found_other setting given i d before after within differs same has = record {
  numbers = has.numbers
      ∙ ap (λ l. numbers_given setting (text_of before) ++ numbers_for setting (choices_in l))
      (drop_split given i d within)
      ∙ rw (differs, same, add-one) refl;
  range = rw same has.range;
}
