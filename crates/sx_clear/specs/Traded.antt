-- What the offers after transactions trade.
use Rattle.std.specs.Prelude.{ℕ, false, List}
use Rattle.sx_ledger.specs.declared.parts.Parts.{Parts}
use Rattle.sx_ledger.specs.Body.{body_after}
use Rattle.sx_ledger.specs.Bounds.{high_of as high_at, low_of as low_at}
use Rattle.sx_ledger.specs.Ledger.{assets_of}
use Rattle.sx_clear.specs.declared.trade.Trade.{Trade}
use Rattle.sx_clear.specs.TradedWithin.{IsTrade}
use Rattle.sx_tx.specs.declared.tx.Tx.{Tx}

-- what pairs trade within the bounds of the offers after these transactions, at these prices and this margin
abbrev pub IsTradeAt : Parts → List Tx → List ℕ → ℕ → Trade → Type 0
IsTradeAt parts txs prices j trade =
    IsTrade (assets_of parts) (low_at prices j false (body_after parts txs).offers)
    (high_at prices (body_after parts txs).offers) trade
