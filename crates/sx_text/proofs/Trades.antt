-- The lines of trades, one more at a time.
use Rattle.std.proofs.Common.{◌≡◌, ℕ, ◌+◌, ◌/◌, ◌%◌, ◌<◌, List, ◌++◌, length, take, get_or, sym, ap, ◌∙◌}
use Rattle.std.specs.List.{flat_map}
use Rattle.std.proofs.lemmas.List.{flat_map_more}
use Rattle.sx_block.specs.declared.trade.Trade.{Trade}
use Rattle.sx_block.specs.Trades.{trades_from}
use Rattle.sx_block.proofs.Listing.{some_more}
use Rattle.sx_text.specs.Blocks.{trade_line}

-- the line of one more pair that trades
pub trades-taken : (n : ℕ) (xs : List ℕ) (i x : ℕ) (old mid new : List ℕ) → i < length xs → x ≡ get_or xs i 0
    → (x ≡ 0 → ⊥)
    → mid ≡ old ++ flat_map trade_line (trades_from n 0 (take i xs))
    → new ≡ mid ++ trade_line (record { sell = i / n; buy = i % n; value = x })
    → new ≡ old ++ flat_map trade_line (trades_from n 0 (take (i + 1) xs))
trades-taken n xs i x old mid new lt is some so_far more =
    let trade : Trade = record { sell = i / n; buy = i % n; value = x } in
    let trades = trades_from n 0 (take i xs) in
    more ∙ ap (λ (t : List ℕ). t ++ trade_line trade) so_far ∙ flat_map_more trade_line old trades trade
    ∙ ap (λ (ts : List Trade). old ++ flat_map trade_line ts) (sym (some_more n xs i x lt is some))
