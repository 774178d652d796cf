-- Runs of candidates of one account, and the sums of their debits.
use Rattle.std.specs.Prelude.{◌≡◌, ℕ, ◌<◌, ◌≤◌, List, length, Some, slice_get, slice_index_or}
use Rattle.sx_ledger.specs.declared.parts.Parts.{Parts}
use Rattle.sx_ledger.specs.Body.{holding_of}
use Rattle.sx_ledger.specs.Effects.{debits}
use Rattle.sx_ledger.specs.Ledger.{assets_of}
use Rattle.sx_tx.specs.declared.tx.Tx.{Tx}

-- where the run ends that begins at a place: the candidates between are of one account, and the next one is not
pub record EndsRun (txs : List Tx) (start end : ℕ) : Type 0 where
  pub some : start < end
  pub within : end ≤ length txs
  pub one : (k : ℕ) (d : Tx) → start ≤ k → k < end
      → (slice_index_or txs k d).account.0 ≡ (slice_index_or txs start d).account.0
  pub next : (d : Tx) → end < length txs
      → (slice_index_or txs end d).account.0 ≡ (slice_index_or txs start d).account.0 → ⊥

-- a run begins here: all that stand before are of lower accounts
abbrev pub Begins : List Tx → ℕ → Type 0
Begins txs start =
    (k : ℕ) (x y : Tx) → slice_get txs k ≡ Some x → k < start → slice_get txs start ≡ Some y
    → x.account.0 < y.account.0

-- what an account holds, by asset
abbrev pub AreHeld : Parts → ℕ → List ℕ → Type 0
AreHeld parts account balances =
    (asset : ℕ) → asset < assets_of parts → slice_index_or balances asset 0 ≡ holding_of parts.accounts account asset

-- what candidates debit to an account, by asset
pub record AreSums (parts : Parts) (txs : List Tx) (account : ℕ) (sums : List ℕ) : Type 0 where
  pub one_each : length sums ≡ assets_of parts
  pub are : (asset : ℕ) → asset < assets_of parts → slice_index_or sums asset 0 ≡ debits txs account asset
