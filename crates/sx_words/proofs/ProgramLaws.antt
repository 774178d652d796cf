-- What `clap` reads of the words that are handed to it.
use Rattle.std.proofs.Common.{◌≡◌, ◌∙◌, ap, refl, codes, ℕ, Bool, true, false, ◌&&◌, List, [], ◌∷◌, ◌++◌}
use Rattle.std.proofs.Common.{Option, Some, None, option_map, append-nil}
use Rattle.std.specs.Prelude.{find, unwrap_or, IsErrAnd, Result, Ok, Err}
use Rattle.std.specs.List.{fold, list_all, slice_index_or}
use Rattle.clap.specs.Words.{App, Shape, built, is_simple, takes, subcommand_of}
use Rattle.clap.specs.Walk.{Held, Walk, walked, walk, walk_from, nothing_held, settled, answers_to, finished}
use Rattle.clap.specs.Takes.{walk_passes, turn_passes, level_passes, settle_passes, default_passes, is_valid}
use Rattle.clap.specs.Simple.{names_of, label_of, entered, rows_at}
use Rattle.clap.proofs.OnLiterals.{clap_on_literals}
use Rattle.clap.specs.ValueTests.{accepts}
use Rattle.clap.specs.declared.builder.value_parser.ValueParser.TheVariants as parser
use Rattle.sx_words.specs.Numbers.{Text}
use Rattle.sx_words.specs.Program.{program, id_of, default_text}
use Rattle.sx_words.specs.Reading.{OrNoMemory, option_words}
use Rattle.sx_words.specs.declared.fault.WordsFault.{WordsFault}
use Rattle.sx_words.specs.declared.fault.WordsFault.TheVariants.{NoMemory}
use Rattle.sx_words.specs.Settings.{name_of, least_of, most_of}
use Rattle.sx_words.specs.declared.setting.Setting.{Setting}
use Rattle.sx_words.specs.declared.setting.Setting.TheVariants.{Workers, Shards, Mu, Rounds, Searches}
use Rattle.sx_words.proofs.WalkLaws.{IsPlainWord, HasOption, HasWalked, stopped_at, walks_stopped, passes_stopped}
use Rattle.sx_words.proofs.WalkLaws.{and_true, walked_option}

-- the program with all that `clap` adds to it, and its commands
abbrev pub top : App
top = built program

abbrev pub seal_shape : Shape
seal_shape = slice_index_or top.subs 0 top.top

abbrev pub replay_shape : Shape
replay_shape = slice_index_or top.subs 1 top.top

abbrev pub filter_shape : Shape
filter_shape = slice_index_or top.subs 6 top.top

abbrev pub prove_shape : Shape
prove_shape = slice_index_or top.subs 7 top.top

abbrev pub demo_shape : Shape
demo_shape = slice_index_or top.subs 10 top.top

-- ---- from the program to one of its commands

pub record Enters (name : Text) (s : Shape) : Type 0 where
  pub walk : walked top.top.rules (names_of top) (walk_from nothing_held) name ≡ stopped_at name []
  pub turn : turn_passes top.top (names_of top) (walk_from nothing_held) name ≡ true
  pub sub : find (λ t. answers_to name (label_of t)) top.subs ≡ Some s

pub enters_seal : Enters (codes "seal") seal_shape
unfolding clap_on_literals
enters_seal = record { walk = refl; turn = refl; sub = refl }

pub enters_replay : Enters (codes "replay") replay_shape
unfolding clap_on_literals
enters_replay = record { walk = refl; turn = refl; sub = refl }

pub enters_filter : Enters (codes "filter") filter_shape
unfolding clap_on_literals
enters_filter = record { walk = refl; turn = refl; sub = refl }

pub enters_prove : Enters (codes "prove") prove_shape
unfolding clap_on_literals
enters_prove = record { walk = refl; turn = refl; sub = refl }

pub enters_demo : Enters (codes "demo") demo_shape
unfolding clap_on_literals
enters_demo = record { walk = refl; turn = refl; sub = refl }

whole_walk : (name : Text) (s : Shape) (words : List Text) → Enters name s
    → walk top.top.rules (names_of top) nothing_held (name ∷ words) ≡ stopped_at name words
whole_walk name s words enters =
    ap (λ w. fold (walked top.top.rules (names_of top)) w words) enters.walk
    ∙ walks_stopped top.top.rules (names_of top) name [] words

whole_passes : (name : Text) (s : Shape) (words : List Text) → Enters name s
    → walk_passes top.top (names_of top) (walk_from nothing_held) (name ∷ words) ≡ true
unfolding walk_passes
whole_passes name s words enters =
    rw enters.turn (ap (λ w. walk_passes top.top (names_of top) w words) enters.walk
    ∙ passes_stopped top.top (names_of top) name [] words)

pub takes_by : (name : Text) (s : Shape) (words : List Text) → Enters name s
    → level_passes s [] nothing_held words false ≡ true → takes program (codes "speedex" ∷ name ∷ words) ≡ true
takes_by name s words enters level =
    rw (whole_walk name s words enters, whole_passes name s words enters, enters.sub, level) refl

pub rows_by : (name : Text) (s : Shape) (words : List Text) (h : Held) (place : ℕ) (test : Bool) → Enters name s
    → HasWalked s words h place test
    → subcommand_of program (codes "speedex" ∷ name ∷ words) ≡ Some (s.name, finished s.rules h)
rows_by name s words h place test enters has =
    ap (λ w. entered top w.stopped) (whole_walk name s words enters)
    ∙ ap (λ (found : Option Shape). option_map (λ t. rows_at t words) found) enters.sub
    ∙ ap (λ (w : Walk). Some (s.name, finished s.rules w.held)) has.walk

-- what has to hold at the end of the words
abbrev pub ends : Shape → Held → Bool → Bool
ends s h test = test && (settle_passes s.rules s.args_override_self h
    && (list_all default_passes s.rules && is_valid s (finished s.rules h) false))

pub level_by : (s : Shape) (words : List Text) (h : Held) (place : ℕ) (test : Bool) → HasWalked s words h place test
    → ends s h test ≡ true → level_passes s [] nothing_held words false ≡ true
level_by s words h place test has is =
    let both = and_true test _ is in
    rw (has.walk, has.passes both.0) both.1

-- ---- the options of the commands

pub seal_option : (setting : Setting) → HasOption seal_shape (name_of setting) (id_of setting)
unfolding clap_on_literals
seal_option Workers = record { named = λ h place. refl; passes = λ h place e. rw e refl; taken = λ word h place. refl }
seal_option Shards = record { named = λ h place. refl; passes = λ h place e. rw e refl; taken = λ word h place. refl }
seal_option Mu = record { named = λ h place. refl; passes = λ h place e. rw e refl; taken = λ word h place. refl }
seal_option Rounds = record { named = λ h place. refl; passes = λ h place e. rw e refl; taken = λ word h place. refl }
seal_option Searches = record { named = λ h place. refl; passes = λ h place e. rw e refl; taken = λ word h place. refl }

pub replay_option : HasOption replay_shape (name_of Workers) (id_of Workers)
unfolding clap_on_literals
replay_option = record { named = λ h place. refl; passes = λ h place e. rw e refl; taken = λ word h place. refl }

pub filter_option : HasOption filter_shape (name_of Workers) (id_of Workers)
unfolding clap_on_literals
filter_option = record { named = λ h place. refl; passes = λ h place e. rw e refl; taken = λ word h place. refl }

pub demo_option : HasOption demo_shape (name_of Workers) (id_of Workers)
unfolding clap_on_literals
demo_option = record { named = λ h place. refl; passes = λ h place e. rw e refl; taken = λ word h place. refl }

-- ---- an option that may be given

-- the words after an option that may be given
abbrev pub after : Shape → Setting → Option Text → Held → Held
after s setting None h = h
after s setting (Some word) h = record (settled s.rules h) { pending = Some (id_of setting, word ∷ []) }

abbrev pub test_after : Shape → Option Text → Held → Bool → Bool
test_after s None h test = test
test_after s (Some word) h test = test && settle_passes s.rules s.args_override_self h

-- a number that `clap` takes in this range, where one is given
abbrev pub IsTaken : Setting → Option Text → Type 0
IsTaken setting None = Unit {0}
IsTaken setting (Some word) = IsPlainWord word
    × (accepts false (parser.Unsigned (least_of setting) (most_of setting)) word ≡ true)

-- the text that is read for an option
abbrev pub text_or : Setting → Option Text → Text
text_or setting given = unwrap_or given (default_text setting)

pub walked_given : (s : Shape) (words : List Text) (h : Held) (place : ℕ) (test : Bool) (setting : Setting)
    (given : Option Text) → HasOption s (name_of setting) (id_of setting) → IsTaken setting given
    → HasWalked s words h place test
    → HasWalked s (words ++ option_words setting given) (after s setting given h) place (test_after s given h test)
walked_given s words h place test setting None has is before =
    rw (append-nil words) before
walked_given s words h place test setting (Some word) has is before =
    walked_option s words h place test (name_of setting) (id_of setting) word has is.0 before

-- ---- what a parse answers

pub is_simple_program : is_simple program ≡ true
unfolding clap_on_literals
is_simple_program = refl

-- an error of one kind is want of memory
pub or_no_memory : {T : Type 0} (P : T → Type 0) (r : Result T WordsFault) (IsKind : Type 0)
    → IsErrAnd r (λ fault. IsKind → fault ≡ NoMemory) → IsKind → OrNoMemory P r
or_no_memory P (Ok x) IsKind answers is = absurd answers
or_no_memory P (Err fault) IsKind answers is = answers is
