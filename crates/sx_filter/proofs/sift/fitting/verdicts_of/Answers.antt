use Rattle.std.proofs.Common.{Bool, List, subst, sym, arith}
use Rattle.std.proofs.lemmas.List.{with_items_is}
use Rattle.sx_filter.specs.Alone.{is_fit}
use Rattle.sx_filter.specs.Verdicts.{AreVerdicts}
use Rattle.sx_filter.proofs.sift.fitting.verdicts_of.Goals as goal

pub returns-clause-verdicts : goal.returns-clause-verdicts
returns-clause-verdicts c =
    let parts = c.args.ledger.now in
    let txs = c.args.txs.now in
    let said = c.judge.new.verdicts in
    let whole = with_items_is c.in_ok-verdicts.verdicts said
    (omega (arith, c.judge.auto.verdicts, c.deref_mut.ensures.len)) in
    subst (λ (verdicts : List Bool). AreVerdicts (is_fit parts txs) txs verdicts) (sym whole) c.judge.ensures.verdicts
