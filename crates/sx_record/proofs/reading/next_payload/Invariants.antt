use Rattle.std.proofs.Common.{◌≡◌, ◌-◌, ◌≤◌, vec_len}
use Rattle.std.specs.Prelude.{IsTrue}
use Rattle.sx_record.specs.Stream.{Took}
use Rattle.sx_record.proofs.reading.next_payload.Given as goal

abbrev pub invariant-loop-source : goal.invariant-loop-source
invariant-loop-source g l = record {
  within : vec_len l.payload ≤ l.size;
  took : Took (g.S.Source.left l.fn.source) (g.S.Source.left l.source) l.payload.items;
  kept : g.S.Source.strict l.source ≡ g.S.Source.strict l.fn.source;
  steady : IsTrue (g.S.Source.strict l.fn.source) → g.S.Source.faults l.source ≡ g.S.Source.faults l.fn.source;
  rises : g.S.Source.faults l.fn.source ≤ g.S.Source.faults l.source;
}

abbrev pub decreases-loop-source : goal.decreases-loop-source
decreases-loop-source g l = l.size - vec_len l.payload
