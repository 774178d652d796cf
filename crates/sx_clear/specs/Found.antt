-- What is found of a body before anything trades.
use Rattle.std.specs.Prelude.{ℕ, false, List}
use Rattle.sx_fill.specs.Bounds.{HasBounds}
use Rattle.sx_apply.specs.Effects.{IsChangeTo}
use Rattle.sx_apply.specs.Trading.{CanExecute}
use Rattle.sx_tally.specs.Tally.{IsTally}
use Rattle.sx_clear.specs.declared.prices.body.Body.{Body}
use Rattle.sx_dual.specs.Tables.{BoundsTable}
use Rattle.sx_ledger.specs.declared.fill.Fill.{Fill}
use Rattle.sx_ledger.specs.declared.parts.Parts.{Parts}
use Rattle.sx_ledger.specs.Body.{IsAdmissible, body_after}
use Rattle.sx_ledger.specs.Bounds.{high_of, low_of}
use Rattle.sx_ledger.specs.Ledger.{assets_of}
use Rattle.sx_tx.specs.declared.tx.Tx.{Tx}

-- what these transactions do, and what they change the offers to
pub record IsBodyOf (parts : Parts) (txs : List Tx) (body : Body) : Type 0 where
  pub tally : IsTally parts txs body.tally
  pub offers : IsChangeTo parts body.tally body.offers

-- the table has the bounds of each pair at these prices and this margin, by the offers after the transactions
abbrev pub HasBoundsAt : Parts → List Tx → List ℕ → ℕ → BoundsTable → Type 0
HasBoundsAt parts txs prices j =
    HasBounds (assets_of parts) (low_of prices j false (body_after parts txs).offers)
    (high_of prices (body_after parts txs).offers)

-- these are the fills of the offers after an admissible body that was found, with what rounding keeps
pub record CanLeave (parts : Parts) (found : Body) (prices rounding : List ℕ) (fills : List Fill) : Type 0 where
  pub txs : List Tx
  pub admissible : IsAdmissible parts txs
  pub body : IsBodyOf parts txs found
  pub trade : CanExecute (body_after parts txs) prices rounding fills
