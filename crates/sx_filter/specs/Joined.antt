-- The candidates of each class of accounts, tested against each other.
use Rattle.std.specs.Prelude.{◌≡◌, ℕ, ◌<◌, List, length, slice_index_or}
use Rattle.std.specs.List.{filter, flat_map}
use Rattle.sx_filter.specs.Classes.{AreClasses}
use Rattle.sx_filter.specs.Ranges.{is_at}
use Rattle.sx_ledger.specs.declared.parts.Parts.{Parts}
use Rattle.sx_filter.specs.Sifted.{IsSifted}
use Rattle.sx_filter.specs.declared.sift.sifting.Sifted.{Sifted}
use Rattle.sx_tx.specs.declared.tx.Tx.{Tx}

-- what is found of the candidates in each class of accounts
pub record AreSiftedBy (parts : Parts) (candidates : List Tx) (class_of : ℕ → ℕ) (all : List Sifted) : Type 0 where
  pub classes : AreClasses class_of (length all)
  pub each : (class : ℕ) (d : Sifted) → class < length all
      → IsSifted parts (filter (is_at class_of class) candidates) (slice_index_or all class d)

-- the same, whatever the classes are
pub record AreSiftedParts (parts : Parts) (candidates : List Tx) (all : List Sifted) : Type 0 where
  pub class_of : ℕ → ℕ
  pub are : AreSiftedBy parts candidates class_of all

-- what was found of each class, taken together
pub record IsJoined (all : List Sifted) (sifted : Sifted) : Type 0 where
  pub fit : sifted.fit.items ≡ flat_map (λ one. one.fit.items) all
  pub ids : sifted.ids ≡ flat_map (λ one. one.ids) all
