use Rattle.std.proofs.Common.{◌≡◌, ◌-◌, length, take}
use Rattle.sx_bytes.specs.Grammar.{many_at}
use Rattle.sx_bytes.proofs.ListReading.{with_front}
use Rattle.sx_state.specs.Decoding.{offer_at}
use Rattle.sx_state.proofs.offer_decoding.fill.Given as goal

-- those decoded so far and those still to be decoded are all of them
abbrev pub invariant-loop-slot : goal.invariant-loop-slot
invariant-loop-slot l = record {
  one_each : length l.offers ≡ length l.fn.offers;
  same : l.from.bytes ≡ l.payload;
  all : with_front (take l.slot l.offers) (many_at (offer_at l.assets) (length l.fn.offers - l.slot) l.from)
      ≡ many_at (offer_at l.assets) (length l.fn.offers) (record { bytes = l.payload; place = l.place });
}
