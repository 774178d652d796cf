use Rattle.std.proofs.Common.{List, length, ap, arith}
use Rattle.sx_outcome.specs.declared.outcome.Outcome.{Outcome}
use Rattle.sx_outcome.proofs.PackedLaws.{length_outcomes}
use Rattle.sx_outcome.proofs.packed_writing.write_packed.Goals as goal

pub put_kinds-written-requires-clause-count : goal.put_kinds-written-requires-clause-count
put_kinds-written-requires-clause-count c =
    let packed = c.outcomes.inside in
    omega (
      arith,
      c.requires.few,
      c.deref.ensures.len,
      packed.kinds.ok,
      length_outcomes packed.kinds.items packed.overdrafts.items,
      ap (λ (list : List Outcome). length list) c.outcomes.view_is,
    )
