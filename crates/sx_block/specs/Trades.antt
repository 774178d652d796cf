-- The trades of a flow, as a block lists them.
use Rattle.std.specs.Prelude.{◌≢◌, ℕ, zero, suc, ◌+◌, ◌*◌, ◌/◌, ◌%◌, ◌^◌, ◌<◌, ◌≤◌, Bool, List, [], ◌∷◌, nat_lt, ◌==◌}
use Rattle.std.specs.Prelude.{◌&&◌, ◌||◌, if◌then◌else◌}
use Rattle.sx_block.specs.declared.trade.Trade.{Trade}
use Rattle.sx_dual.specs.Tables.{FlowTable}

-- the place of a pair in the entries of a flow among n assets
abbrev pub place_of : ℕ → Trade → ℕ
place_of n trade = trade.sell * n + trade.buy

-- a trade stands before another: by the sold asset, then by the bought one
abbrev pub trade_before : Trade → Trade → Bool
trade_before one other = nat_lt one.sell other.sell || ((one.sell == other.sell) && nat_lt one.buy other.buy)

-- a value above 0 that is traded for another one of n assets
pub record IsTrade (n : ℕ) (trade : Trade) : Type 0 where
  pub sell : trade.sell < n
  pub buy : trade.buy < n
  pub differ : trade.buy ≢ trade.sell
  pub some : 1 ≤ trade.value
  pub most : trade.value ≤ 2 ^ 102

-- ---- from a flow to its trades

-- the pairs that trade, of the entries from this place on
abbrev pub trades_from : ℕ → ℕ → List ℕ → List Trade
trades_from n place [] = []
trades_from n place (value ∷ values) =
    if value == 0 then trades_from n (suc place) values else
    (record { sell = place / n; buy = place % n; value = value } ∷ trades_from n (suc place) values)

-- each pair that trades, by the sold and then by the bought asset
abbrev pub trades_of : FlowTable → List Trade
trades_of flow = trades_from flow.assets 0 flow.values

-- ---- and back

-- the value of the pair at this place, 0 where it does not trade
abbrev pub value_at : ℕ → List Trade → ℕ → ℕ
value_at n [] place = 0
value_at n (trade ∷ trades) place = if place_of n trade == place then trade.value else value_at n trades place

-- as many entries from this place on
abbrev pub entries_from : ℕ → List Trade → ℕ → ℕ → List ℕ
entries_from n trades place zero = []
entries_from n trades place (suc count) = value_at n trades place ∷ entries_from n trades (suc place) count

-- the flow of these trades among n assets
abbrev pub flow_of : ℕ → List Trade → FlowTable
flow_of n trades = record { assets = n; values = entries_from n trades 0 (n * n) }
