use Rattle.std.proofs.Common.{◌++◌, length, ap, ap₂, ◌∙◌, arith}
use Rattle.sx_outcome.specs.Packed.{Logged}
use Rattle.sx_outcome.proofs.PackedLaws.{length_outcomes, outcomes_append}
use Rattle.sx_outcome.proofs.outcome_log.OutcomeLog.append.Goals as goal

pub append_items-requires : goal.append_items-requires
append_items-requires c =
    let more = c.more.inside in
    omega (
      arith,
      c.requires,
      c.deref.ensures.len,
      more.kinds.ok,
      length_outcomes more.kinds.items more.overdrafts.items,
      ap (λ (log : Logged). length log.outcomes) c.more.view_is,
      ap (λ (log : Logged). log.spare) c.self.view_is,
    )

pub returns-clause-outcomes : goal.returns-clause-outcomes
returns-clause-outcomes c =
    rw (c.append_items.ensures.items, c.append_items-2.ensures.items, c.deref.ensures.value, c.deref-2.ensures.value)
    (outcomes_append c.self.inside.kinds.items c.more.inside.kinds.items c.self.inside.overdrafts.items
    c.more.inside.overdrafts.items c.self.invariant.0
    ∙ ap₂ (λ (log more : Logged). log.outcomes ++ more.outcomes) c.self.view_is c.more.view_is)

pub returns-clause-spare : goal.returns-clause-spare
returns-clause-spare c =
    let more = c.more.inside in
    omega (
      arith,
      c.requires,
      c.deref.ensures.len,
      more.kinds.ok,
      c.append_items.ensures.len,
      c.append_items.ensures.capacity,
      length_outcomes more.kinds.items more.overdrafts.items,
      ap (λ (log : Logged). length log.outcomes) c.more.view_is,
      ap (λ (log : Logged). log.spare) c.self.view_is,
    )
