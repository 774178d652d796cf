-- The places of transactions that were looked up before they are entered.
use Rattle.std.specs.Prelude.{◌≡◌, ℕ, ◌+◌, ◌<◌, List, Option, Ok, IfSome, length, slice_index_or}
use Rattle.sx_ledger.specs.declared.parts.Parts.{Parts}
use Rattle.sx_ledger.specs.declared.places.Places.{Places}
use Rattle.sx_ledger.specs.Places.{ArePlaces}
use Rattle.sx_ledger.specs.Static.{static_of}
use Rattle.sx_tx.specs.declared.tx.Tx.{Tx}

-- the transaction passes the static test, and stands at these places
pub record HasPlaces (parts : Parts) (tx : Tx) (places : Places) : Type 0 where
  pub passes : static_of parts tx ≡ Ok tt
  pub here : ArePlaces parts tx places

-- for each transaction from an index on its places, or nothing
abbrev pub AreKnown : Parts → List Tx → ℕ → List (Option Places) → Type 0
AreKnown parts txs from known =
    (k : ℕ) (none : Option Places) (tx : Tx) → k < length known
    → IfSome (slice_index_or known k none) (HasPlaces parts (slice_index_or txs (from + k) tx))
