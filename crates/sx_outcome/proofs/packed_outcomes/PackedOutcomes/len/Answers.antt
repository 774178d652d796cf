use Rattle.std.proofs.Common.{ap, arith}
use Rattle.std.specs.Prelude.{List, length}
use Rattle.sx_outcome.specs.declared.outcome.Outcome.{Outcome}
use Rattle.sx_outcome.proofs.PackedLaws.{length_outcomes}
use Rattle.sx_outcome.proofs.packed_outcomes.PackedOutcomes.len.Goals as goal

pub returns : goal.returns
returns c =
    let packed = c.self.inside in
    omega (
      arith,
      c.len.ensures,
      packed.kinds.ok,
      length_outcomes packed.kinds.items packed.overdrafts.items,
      ap (λ (list : List Outcome). length list) c.self.view_is,
    )
