-- The options: their names, ranges and defaults.
use Rattle.std.specs.Prelude.{ℕ, ◌≤◌, codes}
use Rattle.sx_words.specs.Numbers.{Text}
use Rattle.sx_words.specs.declared.setting.Setting.{Setting}
use Rattle.sx_words.specs.declared.setting.Setting.TheVariants.{Workers, Shards, Mu, Rounds, Searches}

abbrev pub name_of : Setting → Text
name_of Workers = codes "--workers"
name_of Shards = codes "--shards"
name_of Mu = codes "--mu"
name_of Rounds = codes "--rounds"
name_of Searches = codes "--searches"

abbrev pub least_of : Setting → ℕ
least_of Workers = 1
least_of Shards = 1
least_of Mu = 1
least_of Rounds = 0
least_of Searches = 1

abbrev pub most_of : Setting → ℕ
most_of Workers = 64
most_of Shards = 64
most_of Mu = 20
most_of Rounds = 10000
most_of Searches = 8

-- the number where the option is not given
abbrev pub default_of : Setting → ℕ
default_of Workers = 4
default_of Shards = 16
default_of Mu = 10
default_of Rounds = 500
default_of Searches = 1

-- the number is in the range of the option
abbrev pub Takes : Setting → ℕ → Type 0
Takes setting number = (least_of setting ≤ number) × (number ≤ most_of setting)
