-- Options, as words spell them.
use Rattle.std.specs.Prelude.{ℕ, ◌==◌, Bool, true, false, List, [], ◌∷◌, Option, Some, None, if◌then◌else◌}
use Rattle.std.specs.Prelude.{option_and_then, find}
use Rattle.std.specs.List.{list_any, before_first, after_first}
use Rattle.std.specs.Str.{bytes_eq}
use Rattle.sx_words.specs.Numbers.{Text, number_in}
use Rattle.sx_words.specs.Settings.{name_of, least_of, most_of, default_of, Takes}
use Rattle.sx_words.specs.declared.options.Choice.{Choice}
use Rattle.sx_words.specs.declared.setting.Setting.{Setting}
use Rattle.sx_words.specs.declared.setting.Setting.TheVariants.{Workers, Shards, Mu, Rounds, Searches}

-- one reading after another, where both succeed
infixl 10 ◌>>=◌
abbrev pub ◌>>=◌ : {X Y : Type 0} → Option X → (X → Option Y) → Option Y
(found >>= next) = option_and_then next found

-- ---- the words of options

-- an option as it is given: its name, and what stands for its number
pub record Given : Type 0 where
  pub name : Text
  pub number : Text

-- the character `=`
abbrev pub is_equals : ℕ → Bool
is_equals code = code == 61

-- one word, parted at the first `=`
abbrev pub parted_at_equals : Text → Given
parted_at_equals word = record { name = before_first is_equals word; number = after_first is_equals word }

abbrev pub and_more : Given → Option (List Given) → Option (List Given)
and_more given more = more >>= λ rest. Some (given ∷ rest)

-- words as options, each of one word with `=` in it, or of two words
abbrev pub given_in : List Text → Option (List Given)
given_in [] = Some []
given_in (word ∷ []) = if list_any is_equals word then Some (parted_at_equals word ∷ []) else None
given_in (word ∷ next ∷ rest) =
    if list_any is_equals word then and_more (parted_at_equals word) (given_in (next ∷ rest))
    else and_more (record { name = word; number = next }) (given_in rest)

-- ---- the numbers of options

-- the option that has this name, where it is one of these
abbrev pub named : List Setting → Text → Option Setting
named settings name = find (λ setting. bytes_eq (name_of setting) name) settings

-- an option of these, with a number in its range
abbrev pub choice_of : List Setting → Given → Option Choice
choice_of settings given = do
  setting ← named settings given.name
  number ← number_in (least_of setting) (most_of setting) given.number
  Some (record { setting = setting; number = number })

abbrev pub choices_of : List Setting → List Given → Option (List Choice)
choices_of settings [] = Some []
choices_of settings (given ∷ rest) = do
  choice ← choice_of settings given
  more ← choices_of settings rest
  Some (choice ∷ more)

-- the number of a choice is in the range of its option
abbrev pub Fits : Choice → Type 0
Fits choice = Takes choice.setting choice.number

abbrev pub is_same : Setting → Setting → Bool
is_same Workers Workers = true
is_same Shards Shards = true
is_same Mu Mu = true
is_same Rounds Rounds = true
is_same Searches Searches = true
is_same _ _ = false

-- the numbers that an option is given
abbrev pub numbers_for : Setting → List Choice → List ℕ
numbers_for setting [] = []
numbers_for setting (choice ∷ rest) =
    if is_same choice.setting setting then choice.number ∷ numbers_for setting rest else numbers_for setting rest

-- the only one of these numbers, or the default where there is none
abbrev pub only_or : ℕ → List ℕ → Option ℕ
only_or default [] = Some default
only_or default (number ∷ []) = Some number
only_or default (number ∷ next ∷ rest) = None

-- the number of an option: an option is given at most once
abbrev pub number_for : Setting → List Choice → Option ℕ
number_for setting choices = only_or (default_of setting) (numbers_for setting choices)

-- what words choose for a command that has these options
abbrev pub read_options : List Setting → List Text → Option (List Choice)
read_options settings words = given_in words >>= choices_of settings
