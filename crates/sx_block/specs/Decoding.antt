-- Reading a block from left to right, with the first fault.
use Rattle.std.specs.Prelude.{ℕ, ◌-◌, ◌*◌, ◌^◌, true, List, Option, None, Some, Result, Ok, Err, ◌==◌, if◌then◌else◌}
use Rattle.sx_block.specs.declared.header.Header.{Header}
use Rattle.sx_block.specs.declared.header.Block.{Block}
use Rattle.sx_block.specs.declared.trade.Trade.{Trade}
use Rattle.sx_block.specs.Block.{most_version}
use Rattle.sx_block.specs.Trades.{trade_before, flow_of}
use Rattle.sx_base.specs.Ranges.{most_assets}
use Rattle.sx_bytes.specs.declared.fault.Form.TheVariants as form
use Rattle.sx_bytes.specs.declared.fault.FormFault.{FormFault}
use Rattle.sx_bytes.specs.Cursor.{Cursor, left, raw_at}
use Rattle.sx_bytes.specs.Grammar.{◌>>=◌, or_fault, between, field_at, many_at, ordered_at}
use Rattle.sx_dual.specs.declared.cut.Cut.{Cut}
use Rattle.sx_dual.specs.Tables.{FlowTable}
use Rattle.sx_ledger.specs.Body.{tx_before}
use Rattle.sx_state.specs.Decoding.{price_at, units_field_at, sell_at, buy_at}
use Rattle.sx_ledger.specs.Ledger.{most_height}
use Rattle.sx_tx.specs.declared.tx.Tx.{Tx}
use Rattle.sx_tx.specs.TransactionDecoding.{tx_at}
use Rattle.sx_tx.specs.Transactions.{most_transactions}

-- 32 bytes as they are
abbrev pub digest_at : Cursor → Result (List ℕ × Cursor) FormFault
digest_at c = or_fault (raw_at 32 c)

-- any number of 32 bits
abbrev pub potential_at : Cursor → Result (ℕ × Cursor) FormFault
potential_at = field_at 4 (λ _. true) form.Short

-- ---- trades

unfoldable pub trade_at : ℕ → Cursor → Result (Trade × Cursor) FormFault
trade_at n c = do
  sell ← sell_at n c
  buy ← buy_at n sell.0 sell.1
  value ← field_at 16 (between 1 (2 ^ 102)) form.ValueRange buy.1
  Ok (record { sell = sell.0; buy = buy.0; value = value.0 }, value.1)

abbrev pub trades_at : ℕ → ℕ → Cursor → Result (List Trade × Cursor) FormFault
trades_at n count = ordered_at (trade_at n) trade_before form.TradeOrder count None

-- the number of trades, and the trades: a pair without a trade has the value 0
unfoldable pub flow_at : ℕ → Cursor → Result (FlowTable × Cursor) FormFault
flow_at n c = do
  count ← field_at 2 (between 0 (n * (n - 1))) form.TooMany c
  trades ← trades_at n count.0 count.1
  Ok (flow_of n trades.0, trades.1)

-- a cut of n assets
abbrev pub set_at : ℕ → Cursor → Result (Option Cut × Cursor) FormFault
set_at n c = do
  set ← field_at 4 (between 0 (2 ^ n - 1)) form.CutRange c
  Ok (Some (record { 0 = set.0 }), set.1)

-- whether lower bounds were dropped, and the cut where they were
unfoldable pub cut_at : ℕ → Cursor → Result (Option Cut × Cursor) FormFault
cut_at n c = do
  dropped ← field_at 1 (between 0 1) form.Tag c
  if dropped.0 == 0 then Ok (None, dropped.1) else set_at n dropped.1

-- ---- the header, in three parts

-- version, height, parent, body and the exponent of μ
abbrev pub Front : Type 0
Front = ℕ × ℕ × List ℕ × List ℕ × ℕ

unfoldable pub front_at : Cursor → Result (Front × Cursor) FormFault
front_at c = do
  version ← field_at 1 (between 1 most_version) form.Version c
  height ← field_at 8 (between 0 most_height) form.HeightRange version.1
  parent ← digest_at height.1
  body ← digest_at parent.1
  mu ← field_at 1 (between 1 20) form.MuRange body.1
  Ok ((version.0, height.0, parent.0, body.0, mu.0), mu.1)

-- prices, trades and the cut
abbrev pub Market : Type 0
Market = List ℕ × FlowTable × Option Cut

unfoldable pub market_at : ℕ → Cursor → Result (Market × Cursor) FormFault
market_at n c = do
  prices ← many_at price_at n c
  trades ← flow_at n prices.1
  dropped ← cut_at n trades.1
  Ok ((prices.0, trades.0, dropped.0), dropped.1)

-- potentials, rounding and the digest of the ledger after the block
abbrev pub Outcome : Type 0
Outcome = List ℕ × List ℕ × List ℕ

unfoldable pub outcome_at : ℕ → Cursor → Result (Outcome × Cursor) FormFault
outcome_at n c = do
  potentials ← many_at potential_at n c
  rounding ← many_at units_field_at n potentials.1
  after ← digest_at rounding.1
  Ok ((potentials.0, rounding.0, after.0), after.1)

abbrev pub header_of : Front → Market → Outcome → Header
header_of front market outcome = record {
  version = front.0;
  height = front.1;
  parent = front.2;
  body = front.3;
  mu = front.4;
  prices = market.0;
  trades = market.1;
  dropped = market.2;
  potentials = outcome.0;
  rounding = outcome.1;
  after = outcome.2;
}

unfoldable pub header_at : Cursor → Result (Header × Cursor) FormFault
header_at c = do
  front ← front_at c
  assets ← field_at 1 (between 1 most_assets) form.AssetCount front.1
  market ← market_at assets.0 assets.1
  outcome ← outcome_at assets.0 market.1
  Ok (header_of front.0 market.0 outcome.0, outcome.1)

-- ---- the payload

-- the number of transactions, and the transactions
unfoldable pub body_at : Cursor → Result (List Tx × Cursor) FormFault
body_at c = do
  count ← field_at 4 (between 0 most_transactions) form.TooMany c
  ordered_at tx_at tx_before form.Order count.0 None count.1

unfoldable pub fields_at : Cursor → Result (Block × Cursor) FormFault
fields_at c = do
  header ← header_at c
  txs ← body_at header.1
  Ok (record { header = header.0; txs = txs.0 }, txs.1)

-- a whole payload, from its first byte
unfoldable pub block_at : List ℕ → Result Block FormFault
block_at bytes = do
  block ← fields_at (record { bytes = bytes; place = 0 })
  if left block.1 == 0 then Ok block.0 else Err (record { at = block.1.place; fault = form.Rest })
