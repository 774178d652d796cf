-- What `clap` reads of the words of a command whose only option is the number of workers, and of a name alone.
use Rattle.std.proofs.Common.{◌≡◌, ◌∙◌, refl, ap, codes, ℕ, true, List, [], ◌++◌, Option, Some, None, inl, inr}
use Rattle.clap.specs.Words.{Shape, one_of, subcommand_of, subcommand_rows_of, takes}
use Rattle.clap.specs.Walk.{Held, nothing_held, finished}
use Rattle.clap.specs.declared.parser.matches.ArgMatches.{ArgMatches}
use Rattle.clap.proofs.OnLiterals.{clap_on_literals}
use Rattle.sx_words.specs.Numbers.{Text}
use Rattle.sx_words.specs.Program.{program, id_of}
use Rattle.sx_words.specs.Reading.{HasWorkersAlone, IsGiven, IsReadAs, begun, number_of, option_words}
use Rattle.sx_words.specs.Settings.{name_of, Takes}
use Rattle.sx_words.specs.declared.setting.Setting.TheVariants.{Workers}
use Rattle.sx_words.proofs.WalkLaws.{HasOption, HasWalked, walked_none}
use Rattle.sx_words.proofs.ProgramLaws.{Enters, IsTaken, text_or, after, test_after, ends, replay_shape, replay_option}
use Rattle.sx_words.proofs.ProgramLaws.{enters_filter, enters_replay, filter_option, filter_shape}
use Rattle.sx_words.proofs.ProgramLaws.{walked_given, takes_by, level_by, rows_by}
use Rattle.sx_words.proofs.TakenNumbers.{given_taken, given_range, has_option}

-- what is held after the option, in a command of this shape
abbrev workers_held : Shape → Option Text → Held
workers_held s w = after s Workers w nothing_held

-- the command of this name and shape has the option, which is all that its words can give
record HasWorkers (name : Text) (s : Shape) : Type 0 where
  pub enters : Enters name s
  pub option : HasOption s (name_of Workers) (id_of Workers)
  pub ends : (w : Option Text) → IsTaken Workers w
      → ends s (workers_held s w) (test_after s w nothing_held true) ≡ true
  pub reads : (w : Option Text)
      → one_of (id_of Workers) (finished s.rules (workers_held s w)) ≡ Some (text_or Workers w)

replay_ends : (w : Option Text) → IsTaken Workers w
    → ends replay_shape (workers_held replay_shape w) (test_after replay_shape w nothing_held true) ≡ true
replay_ends None is_w = refl
replay_ends (Some w) is_w = rw is_w.1 refl

replay_reads : (w : Option Text)
    → one_of (id_of Workers) (finished replay_shape.rules (workers_held replay_shape w)) ≡ Some (text_or Workers w)
replay_reads None = refl
replay_reads (Some w) = refl

replay_has : HasWorkers (codes "replay") replay_shape
replay_has = record { enters = enters_replay; option = replay_option; ends = replay_ends; reads = replay_reads }

filter_ends : (w : Option Text) → IsTaken Workers w
    → ends filter_shape (workers_held filter_shape w) (test_after filter_shape w nothing_held true) ≡ true
filter_ends None is_w = refl
filter_ends (Some w) is_w = rw is_w.1 refl

filter_reads : (w : Option Text)
    → one_of (id_of Workers) (finished filter_shape.rules (workers_held filter_shape w)) ≡ Some (text_or Workers w)
filter_reads None = refl
filter_reads (Some w) = refl

filter_has : HasWorkers (codes "filter") filter_shape
filter_has = record { enters = enters_filter; option = filter_option; ends = filter_ends; reads = filter_reads }

-- ---- from the words to the number

abbrev pub workers_words : Text → Option Text → List Text
workers_words name w = begun name ++ option_words Workers w

workers_walked : (name : Text) (s : Shape) (w : Option Text) → HasWorkers name s → IsTaken Workers w
    → HasWalked s ([] ++ option_words Workers w) (workers_held s w) 1 (test_after s w nothing_held true)
workers_walked name s w has is_w =
    walked_given s [] nothing_held 1 true Workers w has.option is_w (walked_none s)

takes_by_shape : (name : Text) (s : Shape) (w : Option Text) → HasWorkers name s → IsGiven Workers w
    → takes program (workers_words name w) ≡ true
takes_by_shape name s w has a =
    let is_w = given_taken Workers w a in
    takes_by name s _ has.enters (level_by s _ _ 1 _ (workers_walked name s w has is_w) (has.ends w is_w))

reads_by_shape : (name : Text) (s : Shape) (w : Option Text) → HasWorkers name s → (a : IsGiven Workers w)
    → (matches : ArgMatches) → subcommand_rows_of matches ≡ subcommand_of program (workers_words name w)
    → IsReadAs Workers matches a.0
reads_by_shape name s w has a matches is =
    let met = is ∙ rows_by name s _ _ 1 _ has.enters (workers_walked name s w has (given_taken Workers w a)) in
    has_option Workers w a matches _ _ met (has.reads w)

pub takes_workers : (name : Text) (w : Option Text) → HasWorkersAlone name → IsGiven Workers w
    → takes program (workers_words name w) ≡ true
takes_workers name w (inl is) a = rw is (takes_by_shape (codes "replay") replay_shape w replay_has a)
takes_workers name w (inr is) a = rw is (takes_by_shape (codes "filter") filter_shape w filter_has a)

-- the number that the matches have
pub workers_read : (name : Text) (w : Option Text) → HasWorkersAlone name → (a : IsGiven Workers w)
    → (matches : ArgMatches) → subcommand_rows_of matches ≡ subcommand_of program (workers_words name w)
    → IsReadAs Workers matches a.0
workers_read name w (inl is) a matches met =
    reads_by_shape (codes "replay") replay_shape w replay_has a matches
    (met ∙ ap (λ (n : Text). subcommand_of program (workers_words n w)) is)
workers_read name w (inr is) a matches met =
    reads_by_shape (codes "filter") filter_shape w filter_has a matches
    (met ∙ ap (λ (n : Text). subcommand_of program (workers_words n w)) is)

pub workers_answers : (w : Option Text) (a : IsGiven Workers w) (workers : ℕ) → workers ≡ a.0
    → (number_of Workers w ≡ Some workers) × Takes Workers workers
workers_answers w a workers e = rw e (a.1, given_range Workers w a)

-- ---- a name alone

pub takes_check : takes program (begun (codes "check")) ≡ true
unfolding clap_on_literals
takes_check = refl

pub takes_show : takes program (begun (codes "show")) ≡ true
unfolding clap_on_literals
takes_show = refl

pub takes_interleave : takes program (begun (codes "interleave")) ≡ true
unfolding clap_on_literals
takes_interleave = refl

pub takes_migrate : takes program (begun (codes "migrate")) ≡ true
unfolding clap_on_literals
takes_migrate = refl

pub takes_verify : takes program (begun (codes "verify")) ≡ true
unfolding clap_on_literals
takes_verify = refl

pub takes_follow : takes program (begun (codes "follow")) ≡ true
unfolding clap_on_literals
takes_follow = refl
