use Rattle.std.proofs.Common.{◌≡◌, ◌-◌}
use Rattle.sx_state.specs.Decoding.{units_field_at}
use Rattle.sx_bytes.specs.Grammar.{many_at}
use Rattle.sx_bytes.proofs.ListReading.{with_front}
use Rattle.sx_block.proofs.header_reading.read_rounding.Given as goal

abbrev pub invariant-loop : goal.invariant-loop
invariant-loop l = with_front l.rounding.items (many_at units_field_at (l.assets - l.counter) l.from) ≡ many_at
    units_field_at l.assets l.fn.from
