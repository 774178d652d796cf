use Rattle.std.proofs.Common.{sym, ap, ◌∙◌, arith}
use Rattle.sx_tx.specs.TransactionDecoding.{candidates_at}
use Rattle.sx_tx.proofs.ListLaws.{candidates_again, candidates_take, found_in, only_in}
use Rattle.sx_parts.proofs.parts_reading.par_read_candidates_in_parts.Goals as goal

pub returns-in-Ok-clause-found : goal.returns-in-Ok-clause-found
returns-in-Ok-clause-found g c =
    candidates_take c.args.payload.now c.in-Ok.txs (λ i. omega (arith, c.type_inv.payload i)) c.in-Ok.ensures

pub returns-in-Ok-clause-only : goal.returns-in-Ok-clause-only
returns-in-Ok-clause-only g c = λ txs is e.
    sym (ap candidates_at e ∙ candidates_again txs is) ∙ c.in-Ok.ensures

pub returns-then-threads-lt2-clause-found : goal.returns-then-threads-lt2-clause-found
returns-then-threads-lt2-clause-found g c =
    found_in c.args.payload.now c.alone.result (λ i. omega (arith, c.type_inv.payload i)) c.alone.ensures

pub returns-then-threads-lt2-clause-only : goal.returns-then-threads-lt2-clause-only
returns-then-threads-lt2-clause-only g c = λ txs is e.
    only_in c.args.payload.now c.alone.result txs c.alone.ensures is e

pub returns-in-Err-clause-found : goal.returns-in-Err-clause-found
returns-in-Err-clause-found g c =
    found_in c.args.payload.now c.alone-in-Err.result (λ i. omega (arith, c.type_inv.payload i)) c.alone-in-Err.ensures

pub returns-in-Err-clause-only : goal.returns-in-Err-clause-only
returns-in-Err-clause-only g c = λ txs is e.
    only_in c.args.payload.now c.alone-in-Err.result txs c.alone-in-Err.ensures is e
