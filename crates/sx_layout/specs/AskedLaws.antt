-- Laws of what a candidate asks for that the ledger does not refuse.
use Rattle.std.specs.Prelude.{◌≡◌, ℕ, List, Ok, Contains}
use Rattle.sx_layout.specs.Asked.{number_spot, wanted_of, IsBitSpot, IsWanted, IsClear, IsWantedClear}
use Rattle.sx_layout.specs.Plan.{Plan, plan_of}
use Rattle.sx_layout.specs.PlanLaws.{IsLaidOut}
use Rattle.sx_ledger.specs.declared.parts.Parts.{Parts}
use Rattle.sx_ledger.specs.Static.{static_of}
use Rattle.sx_tx.specs.declared.tx.Tx.{Tx}

-- its words are there
pub record AreThere (parts : Parts) (plan : Plan) (tx : Tx) : Type 0 where
  pub number : IsBitSpot plan (number_spot parts plan tx).0 (number_spot parts plan tx).1
  pub wanted : IsWanted plan (wanted_of parts plan tx)

abbrev pub AskedIsThere : Type 0
AskedIsThere =
    (parts : Parts) (candidates : List Tx) (shards : ℕ) (tx : Tx) → IsLaidOut parts candidates shards
    → Contains candidates tx → static_of parts tx ≡ Ok tt → AreThere parts (plan_of parts candidates shards) tx

-- the bits that it asks for are clear at the opening
pub record AreClear (parts : Parts) (plan : Plan) (tx : Tx) : Type 0 where
  pub number : IsClear plan (number_spot parts plan tx).0 (number_spot parts plan tx).1
  pub wanted : IsWantedClear plan (wanted_of parts plan tx)

abbrev pub AskedIsClear : Type 0
AskedIsClear =
    (parts : Parts) (candidates : List Tx) (shards : ℕ) (tx : Tx) → IsLaidOut parts candidates shards
    → Contains candidates tx → static_of parts tx ≡ Ok tt → AreClear parts (plan_of parts candidates shards) tx
