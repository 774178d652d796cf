use Rattle.std.proofs.Common.{subst}
use Rattle.sx_ledger.specs.declared.parts.Parts.{Parts}
use Rattle.sx_meaning.specs.Sealing.{IsClearedFor}
use Rattle.sx_run.proofs.commands.making.cleared.Goals as goal

pub cleared_in_place-requires-clause-admissible : goal.cleared_in_place-requires-clause-admissible
cleared_in_place-requires-clause-admissible g c = λ κs out. rw c.in_ok-copy.ensures c.requires.admissible

pub cleared_in_place-requires-clause-below_last : goal.cleared_in_place-requires-clause-below_last
cleared_in_place-requires-clause-below_last g c = λ κs out. rw c.in_ok-copy.ensures c.requires.below_last

pub returns-clause-cleared : goal.returns-clause-cleared
returns-clause-cleared g c =
    subst
    (λ (p : Parts). IsClearedFor p c.args.numbers.mu c.args.numbers.rounds c.args.numbers.searches
    c.in_ok-cleared.field-0.cleared.block)
    c.in_ok-copy.ensures c.in_ok-cleared.ensures.cleared
