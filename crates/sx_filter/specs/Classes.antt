-- Candidates by classes of accounts, such as ranges: of each class those that pass, sorted.
use Rattle.std.specs.Prelude.{ℕ, ◌<◌, List, length, slice_index_or}
use Rattle.std.specs.List.{filter}
use Rattle.sx_ledger.specs.declared.parts.Parts.{Parts}
use Rattle.sx_filter.specs.Ranges.{is_at}
use Rattle.sx_filter.specs.Part.{IsPart}
use Rattle.sx_tx.specs.declared.tx.Tx.{Tx}

-- accounts are of so many classes, which rise with the ids
pub record AreClasses (class_of : ℕ → ℕ) (count : ℕ) : Type 0 where
  pub rise : (a b : ℕ) → class_of a < class_of b → a < b
  pub few : (a : ℕ) → class_of a < count

-- of each class what passes of the candidates in it
pub record AreParted (parts : Parts) (candidates : List Tx) (lists : List (List Tx)) : Type 0 where
  pub class_of : ℕ → ℕ
  pub classes : AreClasses class_of (length lists)
  pub each : (class : ℕ) (d : List Tx) → class < length lists
      → IsPart parts (filter (is_at class_of class) candidates) (slice_index_or lists class d)
