use Rattle.std.proofs.Common.{◌≡◌, ℕ, ◌≤◌, List, length, drop, sym, ap, ap₂, subst, ◌∙◌, arith}
use Rattle.sx_block.specs.declared.header.Header.{Header}
use Rattle.sx_block.specs.Block.{IsHeader, assets_of}
use Rattle.sx_block.specs.Encoding.{block_bytes}
use Rattle.sx_block.specs.Trades.{trades_from, trades_of}
use Rattle.sx_block.proofs.Counts.{trades_most}
use Rattle.sx_block.proofs.Lengths.{length-header, header_within, after_header, cut_length, cut_most}
use Rattle.sx_tx.specs.Transactions.{list_bytes}
use Rattle.sx_block.proofs.writing.header_length.Goals as goal

-- the number of trades that was counted
count_is : (h : Header) (result assets : ℕ) (values : List ℕ) → IsHeader h →
    result ≡ length (trades_from assets 0 values) → assets ≡ assets_of h → values ≡ h.trades.values →
    result ≡ length (trades_of h.trades)
count_is h result assets values is e a v = e ∙
    ap₂ (λ (n : ℕ) (vs : List ℕ). length (trades_from n 0 vs)) (a ∙ sym is.same_assets) v

pub overflow_mul-result-2 : goal.overflow_mul-result-2
overflow_mul-result-2 c =
    let h = c.args.block.now.header in
    let count = count_is h c.trade_count-trades.result (length c.items-assets.result.now) c.values.result.now
    c.requires.header c.trade_count-trades.ensures (ap length c.items-assets.ensures) c.values.ensures.values in
    omega (arith, trades_most h.trades c.requires.header.trades)

pub overflow_add-result-2 : goal.overflow_add-result-2
overflow_add-result-2 c =
    let h = c.args.block.now.header in
    let count = count_is h c.trade_count-trades.result (length c.items-assets.result.now) c.values.result.now
    c.requires.header c.trade_count-trades.ensures (ap length c.items-assets.ensures) c.values.ensures.values in
    omega (
      arith,
      trades_most h.trades c.requires.header.trades,
      ap length c.items-assets.ensures,
      c.requires.header.few_assets,
    )

pub overflow_add-result-3 : goal.overflow_add-result-3
overflow_add-result-3 c =
    let h = c.args.block.now.header in
    let count = count_is h c.trade_count-trades.result (length c.items-assets.result.now) c.values.result.now
    c.requires.header c.trade_count-trades.ensures (ap length c.items-assets.ensures) c.values.ensures.values in
    let cut : c.cut_bytes.result ≡ cut_length h.dropped = c.cut_bytes.ensures in
    omega (
      arith,
      trades_most h.trades c.requires.header.trades,
      ap length c.items-assets.ensures,
      c.requires.header.few_assets,
      cut_most h.dropped,
    )

pub returns-clause-exact : goal.returns-clause-exact
returns-clause-exact c =
    let h = c.args.block.now.header in
    let count = count_is h c.trade_count-trades.result (length c.items-assets.result.now) c.values.result.now
    c.requires.header c.trade_count-trades.ensures (ap length c.items-assets.ensures) c.values.ensures.values in
    let assets : length c.items-assets.result.now ≡ assets_of h = ap length c.items-assets.ensures in
    rw (assets, count, c.cut_bytes.ensures) (sym (length-header h c.requires.header))

pub returns-clause-within : goal.returns-clause-within
returns-clause-within c =
    let block = c.args.block.now in
    subst (λ (n : ℕ). n ≤ length (block_bytes block)) (sym (returns-clause-exact c)) (header_within block)

pub returns-clause-transactions : goal.returns-clause-transactions
returns-clause-transactions c =
    let block = c.args.block.now in
    subst (λ (n : ℕ). drop n (block_bytes block) ≡ list_bytes block.txs) (sym (returns-clause-exact c))
    (after_header block)
