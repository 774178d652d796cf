-- What passes of candidates, sorted.
use Rattle.std.specs.Prelude.{◌≡◌, All, Ok, List}
use Rattle.std.specs.List.Sorted.{IsPermutation, IsSortedBy}
use Rattle.sx_filter.specs.Kept.{passing}
use Rattle.sx_ledger.specs.declared.parts.Parts.{Parts}
use Rattle.sx_ledger.specs.Body.{tx_before}
use Rattle.sx_ledger.specs.Static.{static_of}
use Rattle.sx_tx.specs.declared.tx.Tx.{Tx}

-- these are what passes of candidates, which are `all` once they are sorted
pub record IsPart (parts : Parts) (candidates part : List Tx) : Type 0 where
  pub all : List Tx
  pub moves : IsPermutation candidates all
  pub sorted : IsSortedBy tx_before all
  pub are : part ≡ passing parts all

-- all of a part pass, and stand in order
pub record IsReady (parts : Parts) (part : List Tx) : Type 0 where
  pub passes : All (λ tx. static_of parts tx ≡ Ok tt) part
  pub sorted : IsSortedBy tx_before part
