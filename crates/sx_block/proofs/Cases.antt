-- The definitions, computed at small blocks that were worked out by hand. Prices and limits are in units of 2 ^ -24.
use Rattle.std.proofs.Common.{◌≡◌, ℕ, ◌*◌, ◌^◌, List, [], ◌∷◌, Option, None, Some, refl}
use Rattle.std.specs.Prelude.{pos}
use Rattle.sx_block.specs.declared.header.Block.{Block}
use Rattle.sx_block.specs.declared.trade.Trade.{Trade}
use Rattle.sx_block.specs.Encoding.{cut_bytes, flow_bytes}
use Rattle.sx_block.specs.Trades.{flow_of, trades_of}
use Rattle.sx_block.specs.Validity.{high_in, ledger_after, low_in, undropped_low_in}
use Rattle.sx_dual.specs.declared.cut.Cut.{Cut}
use Rattle.sx_dual.specs.Circulation.{bought, sold}
use Rattle.sx_dual.specs.Cuts.{sum_in, sum_out}
use Rattle.sx_dual.specs.Fit.{gain_of}
use Rattle.sx_dual.specs.Sums.{sum_below}
use Rattle.sx_dual.specs.Tables.{FlowTable, potential_of, value_of}
use Rattle.sx_ledger.specs.declared.account.Account.{Account}
use Rattle.sx_ledger.specs.declared.offer.Offer.{Offer}
use Rattle.sx_ledger.specs.declared.parts.Parts.{Parts}
use Rattle.sx_tx.specs.declared.kind.Kind.TheVariants as kind
use Rattle.sx_tx.specs.declared.tx.Tx.{Tx}
use Rattle.sx_tx.specs.Window.{bit_length}

abbrev pub account : ℕ → ℕ → List ℕ → Account
account id last balances =
    record { id = record { 0 = id }; window = record { last = last; used = 0 }; balances = balances }

abbrev pub offer : ℕ → ℕ → ℕ → ℕ → ℕ → ℕ → Offer
offer sell buy limit id seq amount =
    record { sell = sell; buy = buy; limit = limit; account = record { 0 = id }; seq = seq; amount = amount }

abbrev sells : ℕ → ℕ → ℕ → ℕ → ℕ → ℕ → Tx
sells id seq sell buy limit amount =
    record { account = record { 0 = id }; seq = seq; kind = kind.Offer sell buy limit amount }

abbrev trade : ℕ → ℕ → ℕ → Trade
trade sell buy value = record { sell = sell; buy = buy; value = value }

-- what two pairs of two assets trade
abbrev pub two_pairs : ℕ → ℕ → FlowTable
two_pairs first second = record { assets = 2; values = 0 ∷ first ∷ second ∷ 0 ∷ [] }

abbrev block : List ℕ → FlowTable → Option Cut → List ℕ → List ℕ → List Tx → Block
block prices trades dropped potentials rounding txs = record {
  header = record {
    version = 1;
    height = 1;
    parent = [];
    body = [];
    mu = 10;
    prices = prices;
    trades = trades;
    dropped = dropped;
    potentials = potentials;
    rounding = rounding;
    after = [];
  };
  txs = txs;
}

-- ---- at 3 to 2, 5 units and 8 units that must trade are not worth the same: lower bounds are dropped, and the second
-- asset keeps one unit

abbrev opening : Parts
opening = record {
  version = 1;
  height = 0;
  prices = 3 * 2 ^ 20 ∷ 2 * 2 ^ 20 ∷ [];
  rounding = 7 ∷ 9 ∷ [];
  accounts = account 1 0 (5 ∷ 0 ∷ []) ∷ account 2 0 (0 ∷ 8 ∷ []) ∷ [];
  offers = [];
}

abbrev uneven : Block
uneven =
    block (3 * 2 ^ 20 ∷ 2 * 2 ^ 20 ∷ []) (two_pairs (15 * 2 ^ 20) (15 * 2 ^ 20)) (Some (record { 0 = 1 }))
    (1 ∷ 0 ∷ []) (0 ∷ 1 ∷ [])
    (sells 1 1 0 1 (2 ^ 22) 5 ∷ sells 2 1 1 0 (2 ^ 22) 8 ∷ [])

uneven_bounds :
    (undropped_low_in opening uneven 0 1 ≡ 15 * 2 ^ 20) × (high_in opening uneven 0 1 ≡ 15 * 2 ^ 20) ×
    (undropped_low_in opening uneven 1 0 ≡ 16 * 2 ^ 20)
    × (high_in opening uneven 1 0 ≡ 16 * 2 ^ 20) × (low_in opening uneven 1 0 ≡ 0)
uneven_bounds = (refl, refl, refl, refl, refl)

-- 16 must go into the set of the first asset, and 15 may go out of it
uneven_cut : (sum_in 2 (undropped_low_in opening uneven) 1 ≡ 16 * 2 ^ 20) ×
    (sum_out 2 (high_in opening uneven) 1 ≡ 15 * 2 ^ 20)
unfolding sum_below
uneven_cut = (refl, refl)

uneven_gains : (gain_of (potential_of (1 ∷ 0 ∷ [])) 0 1 ≡ pos 2) × (gain_of (potential_of (1 ∷ 0 ∷ [])) 1 0 ≡ pos 0)
uneven_gains = (refl, refl)

uneven_balance : (sold 2 (value_of uneven.header.trades) 0 ≡ 15 * 2 ^ 20) ×
    (bought 2 (value_of uneven.header.trades) 0 ≡ 15 * 2 ^ 20)
unfolding sum_below
uneven_balance = (refl, refl)

uneven_leaves : ledger_after opening uneven ≡ record {
  version = 1;
  height = 1;
  prices = 3 * 2 ^ 20 ∷ 2 * 2 ^ 20 ∷ [];
  rounding = 7 ∷ 10 ∷ [];
  accounts = account 1 1 (0 ∷ 7 ∷ []) ∷ account 2 1 (5 ∷ 0 ∷ []) ∷ [];
  offers = [];
}
unfolding bit_length
uneven_leaves = refl

-- ---- prices that the ledger did not have, an offer that stays in part, and a pair that trades one way only by half

abbrev half : Block
half =
    block (2 ^ 24 ∷ 2 ^ 24 ∷ []) (two_pairs (3 * 2 ^ 24) (3 * 2 ^ 24)) None (0 ∷ 0 ∷ []) (0 ∷ 0 ∷ [])
    (sells 1 1 0 1 (2 ^ 24) 5 ∷ sells 2 1 1 0 (2 ^ 23) 3 ∷ [])

half_bounds :
    (low_in opening half 0 1 ≡ 0) × (high_in opening half 0 1 ≡ 5 * 2 ^ 24) ×
    (low_in opening half 1 0 ≡ 3 * 2 ^ 24) × (high_in opening half 1 0 ≡ 3 * 2 ^ 24)
half_bounds = (refl, refl, refl, refl)

half_leaves : ledger_after opening half ≡ record {
  version = 1;
  height = 1;
  prices = 2 ^ 24 ∷ 2 ^ 24 ∷ [];
  rounding = 7 ∷ 9 ∷ [];
  accounts = account 1 1 (0 ∷ 3 ∷ []) ∷ account 2 1 (3 ∷ 5 ∷ []) ∷ [];
  offers = offer 0 1 (2 ^ 24) 1 1 2 ∷ [];
}
unfolding bit_length
half_leaves = refl

-- ---- trades and a cut as bytes

-- of three assets, the pairs that trade by the sold and then the bought one
three_assets : trades_of (record { assets = 3; values = 0 ∷ 0 ∷ 5 ∷ 6 ∷ 0 ∷ 0 ∷ 0 ∷ 7 ∷ 0 ∷ [] }) ≡ trade 0 2 5 ∷
    trade 1 0 6 ∷ trade 2 1 7 ∷ []
three_assets = refl

three_assets_back : flow_of 3 (trade 0 2 5 ∷ trade 1 0 6 ∷ trade 2 1 7 ∷ []) ≡
    record { assets = 3; values = 0 ∷ 0 ∷ 5 ∷ 6 ∷ 0 ∷ 0 ∷ 0 ∷ 7 ∷ 0 ∷ [] }
three_assets_back = refl

one_trade : flow_bytes (two_pairs 0 258) ≡ 0 ∷ 1 ∷ 1 ∷ 0 ∷ 0 ∷ 0 ∷ 0 ∷ 0 ∷ 0 ∷ 0 ∷ 0 ∷ 0 ∷ 0 ∷ 0 ∷ 0 ∷ 0 ∷ 0 ∷ 0 ∷ 1
    ∷ 2 ∷ []
one_trade = refl

cuts : (cut_bytes None ≡ 0 ∷ []) × (cut_bytes (Some (record { 0 = 3 })) ≡ 1 ∷ 0 ∷ 0 ∷ 0 ∷ 3 ∷ [])
cuts = (refl, refl)
