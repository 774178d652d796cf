-- The command line as `clap` knows it: one command with eleven subcommands.
use Rattle.std.specs.Prelude.{◌-◌, ◌^◌, ◌≡◌, true, false, List, [], ◌∷◌, Some, codes}
use Rattle.clap.specs.Words.{App, Rule, app_of, new_app, new_rule, with_rule, with_subcommand}
use Rattle.clap.specs.declared.builder.command.Command.{Command}
use Rattle.clap.specs.declared.builder.command.Command.TheViews.{out-Command}
use Rattle.clap.specs.declared.builder.value_parser.ValueParser.TheVariants as parser
use Rattle.sx_words.specs.Numbers.{Text}
use Rattle.sx_words.specs.Settings.{least_of, most_of}
use Rattle.sx_words.specs.declared.setting.Setting.{Setting}
use Rattle.sx_words.specs.declared.setting.Setting.TheVariants.{Workers, Shards, Mu, Rounds, Searches}

-- ---- the arguments

-- the name of an option without the two hyphens
abbrev pub id_of : Setting → Text
id_of Workers = codes "workers"
id_of Shards = codes "shards"
id_of Mu = codes "mu"
id_of Rounds = codes "rounds"
id_of Searches = codes "searches"

-- the default in decimal
abbrev pub default_text : Setting → Text
default_text Workers = codes "4"
default_text Shards = codes "16"
default_text Mu = codes "10"
default_text Rounds = codes "500"
default_text Searches = codes "1"

-- an option of one value in its range
abbrev pub option_by : Setting → Text → Text → Rule
option_by setting id default = record (new_rule id) {
  long = Some id;
  parser = Some (parser.Unsigned (least_of setting) (most_of setting));
  defaults = default ∷ [];
}

abbrev pub option_rule : Setting → Rule
option_rule setting = option_by setting (id_of setting) (default_text setting)

-- a number of 64 bits that has to be given
abbrev pub number_by : Text → Rule
number_by id = record (new_rule id) {
  parser = Some (parser.Unsigned 0 (2 ^ 64 - 1));
  required = true;
}

-- ---- the commands

-- a seal of one search
abbrev pub single_app : App
single_app = with_rule (with_rule (with_rule (with_rule (new_app (codes "seal")) (option_rule Workers))
    (option_rule Shards)) (option_rule Mu)) (option_rule Rounds)

abbrev pub seal_app : App
seal_app = with_rule single_app (option_rule Searches)

-- a command whose only option is the number of workers
abbrev pub workers_app : Text → App
workers_app name = with_rule (new_app name) (option_rule Workers)

abbrev pub prove_app : App
prove_app = with_rule (new_app (codes "prove")) (number_by (codes "id"))

abbrev pub demo_app : App
demo_app = with_rule (with_rule (new_app (codes "demo")) (number_by (codes "number"))) (option_rule Workers)

abbrev pub with_each : App → List App → App
with_each above [] = above
with_each above (sub ∷ rest) = with_each (with_subcommand above sub.top) rest

abbrev pub program : App
program = with_each (new_app (codes "speedex")) (seal_app ∷ workers_app (codes "replay") ∷ new_app (codes "check")
    ∷ new_app (codes "show") ∷ new_app (codes "interleave") ∷ new_app (codes "migrate")
    ∷ workers_app (codes "filter") ∷ prove_app ∷ new_app (codes "verify") ∷ new_app (codes "follow") ∷ demo_app ∷ [])

-- the command reads as this one, and no argument of it stands for subcommands too
abbrev pub IsApp : App → Command → Type 0
IsApp app command = ((out-Command command).has_globals ≡ false) × (app_of command ≡ app)
