use Rattle.std.proofs.Common.{◌≡◌, ◌-◌}
use Rattle.sx_bytes.specs.Grammar.{many_at}
use Rattle.sx_bytes.proofs.ListReading.{with_front}
use Rattle.sx_outcome.specs.OutcomeDecoding.{outcome_at}
use Rattle.sx_outcome.proofs.outcome_reading.entries.Given as goal

-- those read so far and those still to be read are all of them
abbrev pub invariant-loop : goal.invariant-loop
invariant-loop l =
    with_front l.outcomes.items (many_at outcome_at (l.count - l.counter) l.from) ≡ many_at outcome_at l.count l.fn.from
