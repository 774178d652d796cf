use Rattle.std.proofs.Common.{◌≡◌, ℕ, ◌+◌, ◌<◌, sym, ap, ◌∙◌}
use Rattle.std.specs.Prelude.{slice_index}
use Rattle.std.proofs.lemmas.Result.{IfOk-weaker}
use Rattle.sx_apply.proofs.Trades.{gives_its_value, in_full, tradable_of, within_limits}
use Rattle.sx_apply.proofs.trading.trade.Goals as goal
use Rattle.sx_block.specs.Effects.{circulating}
use Rattle.sx_dual.specs.Tables.{value_of}
use Rattle.sx_fill.specs.AllFills.{all_fills}
use Rattle.sx_block.proofs.TradeTotals.{trade_falls_by_rounding, trade_keeps_rounding}
use Rattle.sx_ledger.specs.declared.parts.Parts.{Parts}
use Rattle.sx_ledger.specs.Ledger.{assets_of}
use Rattle.sx_ledger.specs.Trade.{traded}

pub returns-in_err-fills-clause-within_limits : goal.returns-in_err-fills-clause-within_limits
returns-in_err-fills-clause-within_limits c =
    within_limits c.args.ledger c.args.header.now c.parts.ensures.kept c.requires.clears

pub returns-in_err-fills-clause-in_full : goal.returns-in_err-fills-clause-in_full
returns-in_err-fills-clause-in_full c = in_full c.args.ledger c.args.header.now c.parts.ensures.kept c.requires.clears

pub returns-clause-within_limits : goal.returns-clause-within_limits
returns-clause-within_limits c =
    within_limits c.args.ledger c.args.header.now c.parts.ensures.kept c.requires.clears

pub returns-clause-in_full : goal.returns-clause-in_full
returns-clause-in_full c = in_full c.args.ledger c.args.header.now c.parts.ensures.kept c.requires.clears

pub returns-clause-gives : goal.returns-clause-gives
returns-clause-gives c =
    gives_its_value c.args.ledger c.args.header.now c.parts.ensures.kept c.requires.clears

pub returns-clause-conserves : goal.returns-clause-conserves
returns-clause-conserves c =
    let ledger = c.args.ledger in
    let header = c.args.header.now in
    let kept = c.parts.ensures.kept in
    let clears = c.requires.clears in
    let tradable = tradable_of ledger header kept clears in
    let new = traded ledger header.prices (value_of header.trades) header.rounding in
    IfOk-weaker c.execute.result (λ (after : Parts). after ≡ new)
    (λ (after : Parts). (asset : ℕ) → asset < assets_of ledger →
    circulating ledger asset ≡ circulating after asset + slice_index header.rounding asset)
    (λ after e asset lt. trade_falls_by_rounding ledger header.prices (value_of header.trades) header.rounding asset
    kept tradable clears.rounded lt
    ∙ ap (λ (p : Parts). circulating p asset + slice_index header.rounding asset) (sym e))
    (c.execute.ensures (value_of header.trades) (c.items.ensures ∙ c.in_ok-fills.ensures
    ∙ ap (all_fills header.prices (value_of header.trades))
    (c.items-offers.ensures ∙ ap (λ (p : Parts). p.offers) c.parts.ensures.parts)))

pub returns-clause-keeps_rounding : goal.returns-clause-keeps_rounding
returns-clause-keeps_rounding c =
    let ledger = c.args.ledger in
    let header = c.args.header.now in
    let kept = c.parts.ensures.kept in
    let clears = c.requires.clears in
    let new = traded ledger header.prices (value_of header.trades) header.rounding in
    IfOk-weaker c.execute.result (λ (after : Parts). after ≡ new)
    (λ (after : Parts). (asset : ℕ) → asset < assets_of ledger →
    slice_index after.rounding asset ≡ slice_index ledger.rounding asset + slice_index header.rounding asset)
    (λ after e asset lt. ap (λ (p : Parts). slice_index p.rounding asset) e
    ∙ trade_keeps_rounding ledger header.prices (value_of header.trades) header.rounding asset kept clears.rounded
    lt)
    (c.execute.ensures (value_of header.trades) (c.items.ensures ∙ c.in_ok-fills.ensures
    ∙ ap (all_fills header.prices (value_of header.trades))
    (c.items-offers.ensures ∙ ap (λ (p : Parts). p.offers) c.parts.ensures.parts)))
