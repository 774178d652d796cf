-- Transactions that do again what one before them does.
use Rattle.std.specs.Prelude.{◌≡◌, ℕ, ◌<◌, List, Option, Some, slice_get, option_and_then, IfSome, IfNone}
use Rattle.sx_ledger.specs.declared.key.Key.{Key}
use Rattle.sx_ledger.specs.Body.{cancelled_by, created_by}
use Rattle.sx_tx.specs.declared.tx.Tx.{Tx}

-- what the transaction at an index does, where `does` tells it of each transaction
abbrev pub done_at : {X : Type 0} → (Tx → Option X) → List Tx → ℕ → Option X
done_at does txs index = option_and_then does (slice_get txs index)

-- a transaction before the index does this
pub record IsDoneBefore {X : Type 0} (does : Tx → Option X) (txs : List Tx) (index : ℕ) (what : X) : Type 0 where
  pub first : ℕ
  pub earlier : first < index
  pub done : done_at does txs first ≡ Some what

-- the transaction at the index does what one before it does
pub record Repeats {X : Type 0} (does : Tx → Option X) (txs : List Tx) (index : ℕ) : Type 0 where
  pub what : X
  pub again : done_at does txs index ≡ Some what
  pub before : IsDoneBefore does txs index what

-- this is the first index where a transaction does so
pub record IsFirstRepeat {X : Type 0} (does : Tx → Option X) (txs : List Tx) (index : ℕ) : Type 0 where
  pub repeats : Repeats does txs index
  pub earlier : (other : ℕ) → other < index → ¬ Repeats does txs other

-- the first index where a transaction does so, or nothing where none does
pub record IsRepeat {X : Type 0} (does : Tx → Option X) (txs : List Tx) (again : Option ℕ) : Type 0 where
  pub first : IfSome again (IsFirstRepeat does txs)
  pub none : IfNone again ((index : ℕ) → ¬ Repeats does txs index)

-- the key of the offer that a transaction cancels
abbrev pub cancels : Tx → Option Key
cancels tx = cancelled_by tx tx.kind

-- the id of the account that a transaction creates
abbrev pub creates : Tx → Option ℕ
creates tx = created_by tx.kind
