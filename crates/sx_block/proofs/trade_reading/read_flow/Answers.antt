use Rattle.std.proofs.Common.{◌≡◌, ℕ, ◌*◌, List, sym, ap, subst, ◌∙◌}
use Rattle.std.proofs.lemmas.List.Elements.{recursion_from_All}
use Rattle.sx_block.specs.declared.trade.Trade.{Trade}
use Rattle.sx_block.specs.Trades.{IsTrade, entries_from, flow_of}
use Rattle.sx_block.proofs.Entries.{flow_made}
use Rattle.sx_dual.specs.Tables.{IsFlow}
use Rattle.sx_block.proofs.trade_reading.read_flow.Goals as goal

pub of-requires : goal.of-requires
of-requires c =
    let n = c.args.assets in
    let trades = c.in_ok-trades.trades.items in
    let is : IsFlow (flow_of n trades) =
    flow_made n trades c.requires.some c.requires.few
    (recursion_from_All (IsTrade n) trades c.in_ok-trades.ensures.trades) in
    let values : c.in_ok-entries.entries.items ≡ entries_from n trades 0 (n * n) = c.in_ok-entries.ensures ∙
    ap (λ (ts : List Trade). entries_from n ts 0 (n * n)) c.deref.ensures.value in
    subst (λ (m : ℕ). IsFlow (record { assets = m; values = c.in_ok-entries.entries.items })) (sym c.from-3.ensures)
    (subst (λ (vs : List ℕ). IsFlow (record { assets = n; values = vs })) (sym values) is)
