-- The first transaction of a list that a ledger refuses by itself.
use Rattle.std.specs.Prelude.{◌≡◌, ℕ, List, All, take, slice_get, Some, Ok, Err}
use Rattle.sx_ledger.specs.declared.parts.Parts.{Parts}
use Rattle.sx_ledger.specs.declared.statics.Static.{Static}
use Rattle.sx_ledger.specs.Static.{static_of}
use Rattle.sx_tx.specs.declared.tx.Tx.{Tx}

-- the transaction at this index is refused, and those before it pass
pub record IsFirstRefused (parts : Parts) (txs : List Tx) (index : ℕ) (why : Static) : Type 0 where
  pub tx : Tx
  pub there : slice_get txs index ≡ Some tx
  pub refused : static_of parts tx ≡ Err why
  pub before : All (λ tx. static_of parts tx ≡ Ok tt) (take index txs)

-- ---- laws

-- no two transactions of a list are the first that is refused, and none is refused for two reasons
abbrev pub OneRefusal : Type 0
OneRefusal =
    (parts : Parts) (txs : List Tx) (i j : ℕ) (why other : Static) → IsFirstRefused parts txs i why
    → IsFirstRefused parts txs j other → (i ≡ j) × (why ≡ other)

-- where all pass, none is refused
abbrev pub PassingIsNotRefused : Type 0
PassingIsNotRefused =
    (parts : Parts) (txs : List Tx) (i : ℕ) (why : Static) → All (λ tx. static_of parts tx ≡ Ok tt) txs
    → IsFirstRefused parts txs i why → ⊥
