use Rattle.std.proofs.Common.{arith}
use Rattle.sx_check.proofs.Counting.{no_more}
use Rattle.sx_check.proofs.body.check_room.Goals as goal
use Rattle.sx_ledger.specs.Body.{created_by, made_by}

pub overflow_cast-more : goal.overflow_cast-more
overflow_cast-more c =
    let txs = c.args.block.now.txs in
    omega (
      arith,
      c.created.ensures c.args.ledger.now txs c.requires.tally,
      no_more (λ tx. created_by tx.kind) txs,
      c.requires.form.few,
    )

pub overflow_add-have : goal.overflow_add-have
overflow_add-have c =
    let txs = c.args.block.now.txs in
    omega (
      arith,
      c.created.ensures c.args.ledger.now txs c.requires.tally,
      no_more (λ tx. created_by tx.kind) txs,
      c.requires.form.few,
      c.accounts-have.ensures.few,
    )

pub overflow_cast-more-2 : goal.overflow_cast-more-2
overflow_cast-more-2 c =
    let txs = c.args.block.now.txs in
    omega (
      arith,
      c.made.ensures c.args.ledger.now txs c.requires.tally,
      no_more (λ tx. made_by tx tx.kind) txs,
      c.requires.form.few,
    )

pub overflow_add-have-2 : goal.overflow_add-have-2
overflow_add-have-2 c =
    let txs = c.args.block.now.txs in
    omega (
      arith,
      c.made.ensures c.args.ledger.now txs c.requires.tally,
      no_more (λ tx. made_by tx tx.kind) txs,
      c.requires.form.few,
      c.offers-have.ensures.few,
    )
