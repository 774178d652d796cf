use Rattle.std.proofs.Common.{◌≡◌, ◌-◌, ◌≤◌}
use Rattle.sx_bytes.specs.Grammar.{many_at}
use Rattle.sx_bytes.proofs.ListReading.{with_front}
use Rattle.sx_state.specs.Decoding.{price_at}
use Rattle.sx_state.proofs.reading.prices.Given as goal

abbrev pub invariant-loop : goal.invariant-loop
invariant-loop l = record {
  decoded : with_front l.prices.items (many_at price_at (l.assets - l.counter) l.from)
      ≡ many_at price_at l.assets l.fn.from;
  same : l.from.bytes ≡ l.fn.from.bytes;
  onward : l.fn.from.place ≤ l.from.place;
}
