use Rattle.std.proofs.Common.{List, ap, arith}
use Rattle.sx_tally.specs.declared.entry.Entry.{Entry}
use Rattle.sx_tally.specs.Postings.{units_in}
use Rattle.sx_tally.proofs.PendingUnits.{units_more}
use Rattle.sx_tally.proofs.PostedUnits.{entered_units}
use Rattle.sx_tally.proofs.entries.hold_debit.Goals as goal
use Rattle.sx_ledger.specs.Effects.{debit}

pub returns-in_ok-push-clause-debits : goal.returns-in_ok-push-clause-debits
returns-in_ok-push-clause-debits c = λ p account x there lt.
    let parts = c.args.ledger.now in
    omega (
      arith,
      ap (λ (entries : List Entry). units_in entries p x) c.in_ok-push.ensures.items,
      units_more c.args.debits.now.items c.in-Some.entry p x,
      entered_units parts c.requires.by_id (debit c.args.tx.now) c.in-Some.entry c.in-Some.ensures.some p account x there,
    )
