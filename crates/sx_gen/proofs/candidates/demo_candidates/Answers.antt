use Rattle.std.proofs.Common.{◌∙◌, subst, sym}
use Rattle.sx_gen.proofs.Ranges.{drawn, are_candidates}
use Rattle.sx_tx.specs.Transactions.{IsTxList}
use Rattle.sx_gen.proofs.candidates.demo_candidates.Goals as goal

pub returns-clause-txs : goal.returns-clause-txs
returns-clause-txs c =
    drawn c.args.number _ _ _ _ _ c.seed_from_u64-generator.ensures c.in_ok-txs.ensures.items c.in_ok-txs-2.ensures.txs
    c.in_ok-txs-2.ensures.after (c.of.ensures ∙ c.in_ok-txs-3.ensures)

pub returns-clause-each : goal.returns-clause-each
returns-clause-each c =
    subst IsTxList (sym (drawn c.args.number _ _ _ _ _ c.seed_from_u64-generator.ensures c.in_ok-txs.ensures.items
    c.in_ok-txs-2.ensures.txs c.in_ok-txs-2.ensures.after (c.of.ensures ∙ c.in_ok-txs-3.ensures)))
    (are_candidates c.args.number)
