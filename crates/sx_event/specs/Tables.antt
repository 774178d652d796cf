-- What contracts see of values by two numbers.
use Rattle.std.specs.Prelude.{ℕ, ◌==◌, ◌&&◌, List, Option}
use Rattle.std.specs.Map.{lookup}

-- the entries, each with its table and its purse, and how many more there is room for
pub record Tabled : Type 0 where
  pub entries : List ((ℕ × ℕ) × ℕ)
  pub room : ℕ

-- what a table has of a purse
abbrev pub value_in : List ((ℕ × ℕ) × ℕ) → ℕ → ℕ → Option ℕ
value_in entries table purse = lookup (λ key. (table == key.0) && (purse == key.1)) entries
