-- What a body trades, and what follows of its block.
use Rattle.std.proofs.Common.{◌≡◌, ℕ, ◌+◌, ◌*◌, ◌<◌, ◌≤◌, false, List, length, Result, Ok, Err, ap, subst, ◌∙◌}
use Rattle.std.specs.Prelude.{All, IfOk, slice_index}
use Rattle.sx_fill.specs.Bounds.{HasBounds}
use Rattle.sx_apply.specs.Trading.{CanExecute}
use Rattle.sx_block.specs.declared.header.Block.{Block}
use Rattle.sx_block.specs.Validity.{digest_of_ledger}
use Rattle.sx_clear.specs.declared.prices.body.Body.{Body}
use Rattle.sx_clear.specs.declared.clearing.Trading.{Trading}
use Rattle.sx_clear.specs.declared.heading.Terms.{Terms}
use Rattle.sx_clear.specs.Found.{CanLeave, HasBoundsAt, IsBodyOf}
use Rattle.sx_clear.specs.Searches.{IsCounted}
use Rattle.sx_clear.specs.Terms.{AreTerms}
use Rattle.sx_clear.specs.Traded.{IsTradeAt}
use Rattle.sx_clear.specs.Trading.{IsCountedAt, IsTrading}
use Rattle.sx_clear.proofs.BlockLaws.{rounded_by, tradable}
use Rattle.sx_dual.specs.Tables.{BoundsTable, value_of}
use Rattle.sx_fill.specs.AllFills.{all_fills}
use Rattle.sx_ledger.specs.declared.offer.Offer.{Offer}
use Rattle.sx_ledger.specs.declared.parts.Parts.{Parts}
use Rattle.sx_ledger.specs.Body.{IsAdmissible, body_after}
use Rattle.sx_ledger.specs.Bounds.{high_of, low_of}
use Rattle.sx_ledger.specs.Fills.{IsRounding}
use Rattle.sx_ledger.specs.Ledger.{IsLedger, assets_of}
use Rattle.sx_ledger.specs.Trade.{traded}
use Rattle.sx_level.specs.Solved.{HaveDigits, most_searches}
use Rattle.sx_price.specs.Limits.{IsPrice}
use Rattle.sx_clear.specs.declared.trade.Trade.{Trade}
use Rattle.sx_clear.specs.TradedWithin.{IsTrade}
use Rattle.sx_tx.specs.declared.tx.Tx.{Tx}

module _ (parts : Parts) (txs : List Tx) (body : Body) (prices : List ℕ) (j : ℕ) (trading : Trading)
    (offers : List Offer) (admissible : IsAdmissible parts txs) (found : IsBodyOf parts txs body)
    (middle : IsLedger (body_after parts txs)) (same : length prices ≡ assets_of parts) (in_range : All IsPrice prices)
    (is : offers ≡ (body_after parts txs).offers) where
  pub is_trading : IsTradeAt parts txs prices j trading.trade
      → trading.filled.fills ≡ all_fills prices (value_of trading.trade.flow) offers
      → length trading.filled.rounding ≡ length prices
      → ((asset : ℕ) → asset < length prices
      → IsRounding prices (value_of trading.trade.flow) offers asset (slice_index trading.filled.rounding asset))
      → IsTrading parts txs body prices j trading
  is_trading trade filled long each =
      let flow = value_of trading.trade.flow in
      let rounded = rounded_by parts txs prices flow trading.filled.rounding offers same is long each in
      let fills = filled ∙ ap (all_fills prices flow) is in
      let execute : CanExecute (body_after parts txs) prices trading.filled.rounding trading.filled.fills = record {
        flow = flow;
        tradable = tradable parts txs prices j trading.trade middle same in_range trade;
        rounded = rounded;
        are = fills;
      } in
      let leaves : CanLeave parts body prices trading.filled.rounding trading.filled.fills =
      record { txs = txs; admissible = admissible; body = found; trade = execute } in
      record { trade = trade; rounded = rounded; fills = fills; leaves = leaves }

-- what trades within the bounds of the offers after these transactions
pub traded_at : (parts : Parts) (txs : List Tx) (prices : List ℕ) (j : ℕ) (bounds : BoundsTable) (trade : Trade)
    → HasBoundsAt parts txs prices j bounds
    → ((n : ℕ) (low high : ℕ → ℕ → ℕ) → HasBounds n low high bounds → IsTrade n low high trade)
    → IsTradeAt parts txs prices j trade
traded_at parts txs prices j bounds trade has traded =
    let offers = (body_after parts txs).offers in
    traded (assets_of parts) (low_of prices j false offers) (high_of prices offers) has

-- what is counted by the bounds of a table is counted by the offers after these transactions
pub counted_at : (parts : Parts) (txs : List Tx) (prices : List ℕ) (j : ℕ) (bounds : BoundsTable) (old new : ℕ)
    → HasBoundsAt parts txs prices j bounds
    → ((n : ℕ) (low high : ℕ → ℕ → ℕ) (b : ℕ) → HasBounds n low high bounds → HaveDigits n high b
    → new ≤ old + 2 * most_searches n b)
    → IsCountedAt parts txs prices old new
counted_at parts txs prices j bounds old new has counted = λ b digits.
    let offers = (body_after parts txs).offers in
    counted (assets_of parts) (low_of prices j false offers) (high_of prices offers) b has digits

-- a block of these transactions at these prices is counted by its own bounds
pub counted_block : {E : Type 0} (parts : Parts) (txs : List Tx) (prices : List ℕ) (old new : ℕ) (r : Result Block E)
    → IsCountedAt parts txs prices old new → IfOk r (λ block. block.txs ≡ txs)
    → IfOk r (λ block. block.header.prices ≡ prices) → IfOk r (IsCounted parts old new)
counted_block parts txs prices old new (Ok block) counted is posted = λ b digits.
    let n = assets_of parts in
    let by_prices : HaveDigits n (high_of prices (body_after parts block.txs).offers) b =
    subst (λ (ps : List ℕ). HaveDigits n (high_of ps (body_after parts block.txs).offers) b) posted digits in
    let by_txs : HaveDigits n (high_of prices (body_after parts txs).offers) b =
    subst (λ (xs : List Tx). HaveDigits n (high_of prices (body_after parts xs).offers) b) is by_prices in
    counted b by_txs
counted_block parts txs prices old new (Err e) counted is posted = tt

-- the terms of a trading, with the digest of what it leaves
pub terms_of : (parts : Parts) (txs : List Tx) (body : Body) (trading : Trading) (terms : Terms)
    → IsTrading parts txs body terms.prices terms.mu trading → length terms.prices ≡ assets_of parts
    → All IsPrice terms.prices → terms.trade ≡ trading.trade → terms.rounding ≡ trading.filled.rounding
    → terms.after
    ≡ digest_of_ledger (traded (body_after parts txs) terms.prices (value_of trading.trade.flow) trading.filled.rounding)
    → AreTerms parts txs terms
terms_of parts txs body trading terms is same in_range traded rounded after = record {
  assets = same;
  in_range = in_range;
  trade = rw traded is.trade;
  rounded = rw (traded, rounded) is.rounded;
  after = rw (traded, rounded) after;
}
