-- The terms at which a body trades.
use Rattle.std.specs.Prelude.{◌≡◌, List, length}
use Rattle.std.specs.List.{All}
use Rattle.sx_block.specs.Effects.{IsRounded}
use Rattle.sx_block.specs.Validity.{digest_of_ledger}
use Rattle.sx_clear.specs.declared.heading.Terms.{Terms}
use Rattle.sx_clear.specs.Traded.{IsTradeAt}
use Rattle.sx_dual.specs.Tables.{value_of}
use Rattle.sx_ledger.specs.declared.parts.Parts.{Parts}
use Rattle.sx_ledger.specs.Body.{body_after}
use Rattle.sx_ledger.specs.Ledger.{assets_of}
use Rattle.sx_ledger.specs.Trade.{traded}
use Rattle.sx_price.specs.Limits.{IsPrice}
use Rattle.sx_tx.specs.declared.tx.Tx.{Tx}

-- these are terms at which the offers after the transactions can trade, with what rounding keeps then, and with the
-- digest of the ledger that is left
pub record AreTerms (parts : Parts) (txs : List Tx) (terms : Terms) : Type 0 where
  pub assets : length terms.prices ≡ assets_of parts
  pub in_range : All IsPrice terms.prices
  pub trade : IsTradeAt parts txs terms.prices terms.mu terms.trade
  pub rounded : IsRounded (body_after parts txs) terms.prices (value_of terms.trade.flow) terms.rounding
  pub after : terms.after
      ≡ digest_of_ledger (traded (body_after parts txs) terms.prices (value_of terms.trade.flow) terms.rounding)
