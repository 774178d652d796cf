use Rattle.std.proofs.Common.{◌≡◌, ◌-◌, ◌≤◌, None}
use Rattle.sx_bytes.proofs.ListReading.{with_front}
use Rattle.sx_state.specs.Decoding.{placed_offers_at}
use Rattle.sx_state.proofs.offer_reading.placed_offers.Given as goal

-- those read so far and those still to be read are all of them
abbrev pub invariant-loop : goal.invariant-loop
invariant-loop l = record {
  decoded : with_front l.offers.items (placed_offers_at l.assets (l.count - l.counter) l.before l.from)
      ≡ placed_offers_at l.assets l.count None l.fn.from;
  same : l.from.bytes ≡ l.fn.from.bytes;
  onward : l.fn.from.place ≤ l.from.place;
}
