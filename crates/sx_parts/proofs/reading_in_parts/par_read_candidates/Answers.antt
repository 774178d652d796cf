use Rattle.std.proofs.Common.{sym, ap, ◌∙◌, arith}
use Rattle.sx_tx.specs.TransactionDecoding.{candidates_at}
use Rattle.sx_tx.proofs.ListLaws.{candidates_again, candidates_take}
use Rattle.sx_parts.proofs.reading_in_parts.par_read_candidates.Goals as goal

pub returns-in-Ok-clause-found : goal.returns-in-Ok-clause-found
returns-in-Ok-clause-found g c =
    candidates_take c.args.payload.now c.in-Ok.txs (λ i. omega (arith, c.type_inv.payload i)) c.in-Ok.ensures

pub returns-in-Ok-clause-only : goal.returns-in-Ok-clause-only
returns-in-Ok-clause-only g c = λ txs is e.
    sym (ap candidates_at e ∙ candidates_again txs is) ∙ c.in-Ok.ensures
