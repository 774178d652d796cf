-- What a body trades at given prices.
use Rattle.std.specs.Prelude.{◌≡◌, ℕ, ◌+◌, ◌*◌, ◌≤◌, List}
use Rattle.sx_block.specs.Effects.{IsRounded}
use Rattle.sx_clear.specs.declared.prices.body.Body.{Body}
use Rattle.sx_clear.specs.declared.clearing.Trading.{Trading}
use Rattle.sx_clear.specs.Found.{CanLeave}
use Rattle.sx_clear.specs.Traded.{IsTradeAt}
use Rattle.sx_dual.specs.Tables.{value_of}
use Rattle.sx_fill.specs.AllFills.{all_fills}
use Rattle.sx_ledger.specs.declared.parts.Parts.{Parts}
use Rattle.sx_ledger.specs.Body.{body_after}
use Rattle.sx_ledger.specs.Bounds.{high_of}
use Rattle.sx_ledger.specs.Ledger.{assets_of}
use Rattle.sx_level.specs.Solved.{HaveDigits, most_searches}
use Rattle.sx_tx.specs.declared.tx.Tx.{Tx}

-- what the offers after these transactions trade at the prices, with their fills and what rounding keeps
pub record IsTrading (parts : Parts) (txs : List Tx) (body : Body) (prices : List ℕ) (j : ℕ) (trading : Trading)
    : Type 0 where
  pub trade : IsTradeAt parts txs prices j trading.trade
  pub rounded : IsRounded (body_after parts txs) prices (value_of trading.trade.flow) trading.filled.rounding
  pub fills : trading.filled.fills
      ≡ all_fills prices (value_of trading.trade.flow) (body_after parts txs).offers
  pub leaves : CanLeave parts body prices trading.filled.rounding trading.filled.fills

-- from one count of searches to another there are at most as many as two circulations take within the upper bounds of
-- the offers after these transactions
abbrev pub IsCountedAt : Parts → List Tx → List ℕ → ℕ → ℕ → Type 0
IsCountedAt parts txs prices old new =
    (b : ℕ) → HaveDigits (assets_of parts) (high_of prices (body_after parts txs).offers) b
    → new ≤ old + 2 * most_searches (assets_of parts) b
