-- Candidates that pass, tested against each other.
use Rattle.std.specs.Prelude.{◌≡◌, List}
use Rattle.std.specs.List.{filter, flat_map}
use Rattle.std.specs.Global.{Global}
use Rattle.std.specs.declared.vec.Vec.{Vec}
use Rattle.sx_filter.specs.Alone.{is_fit}
use Rattle.sx_filter.specs.Part.{IsPart}
use Rattle.sx_filter.specs.declared.sift.sifting.Sifted.{Sifted}
use Rattle.sx_ledger.specs.declared.parts.Parts.{Parts}
use Rattle.sx_ledger.specs.Body.{created}
use Rattle.sx_tx.specs.declared.tx.Tx.{Tx}

-- a list in memory
abbrev pub TxVec : Type 0
TxVec = Vec Tx Global

-- what stands in lists, one behind the other
abbrev pub in_lists : List TxVec → List Tx
in_lists lists = flat_map (λ list. list.items) lists

-- of a part, those that none of it stands in the way of, and what all of it create
pub record AreSifted (parts : Parts) (part : List Tx) (sifted : Sifted) : Type 0 where
  pub fit : in_lists sifted.fit.items ≡ filter (is_fit parts part) part
  pub ids : sifted.ids ≡ created part

-- the same of what passes of candidates, sorted
pub record IsSifted (parts : Parts) (candidates : List Tx) (sifted : Sifted) : Type 0 where
  pub part : List Tx
  pub is : IsPart parts candidates part
  pub are : AreSifted parts part sifted
