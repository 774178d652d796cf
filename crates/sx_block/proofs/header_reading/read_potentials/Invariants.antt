use Rattle.std.proofs.Common.{◌≡◌, ◌-◌, ◌≤◌, length}
use Rattle.sx_block.specs.Decoding.{potential_at}
use Rattle.sx_bytes.specs.Grammar.{many_at}
use Rattle.sx_bytes.proofs.ListReading.{with_front}
use Rattle.sx_block.proofs.header_reading.read_potentials.Given as goal

abbrev pub invariant-loop : goal.invariant-loop
invariant-loop l =
    (length l.potentials.items ≡ l.counter) × (l.counter ≤ l.assets)
    × (with_front l.potentials.items (many_at potential_at (l.assets - l.counter) l.from) ≡ many_at potential_at
    l.assets l.fn.from)
