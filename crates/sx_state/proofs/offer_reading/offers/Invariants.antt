use Rattle.std.proofs.Common.{◌≡◌, ◌-◌, None}
use Rattle.sx_bytes.proofs.ListReading.{with_front}
use Rattle.sx_state.specs.Decoding.{offers_at}
use Rattle.sx_state.proofs.offer_reading.offers.Given as goal

-- those read so far and those still to be read are all of them
abbrev pub invariant-loop : goal.invariant-loop
invariant-loop l = with_front l.offers.items (offers_at l.accounts l.assets (l.count - l.counter) l.before l.from)
    ≡ offers_at l.accounts l.assets l.count None l.fn.from
