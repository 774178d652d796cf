use Rattle.sx_spread.proofs.body.par_apply_accounts.Goals as goal

pub complete_accounts-requires : goal.complete_accounts-requires
complete_accounts-requires g c =
    let body = c.requires.body in
    record {
      before = c.args.ledger;
      ledger = c.known_after-known.ensures.kept;
      txs = body.txs;
      body = body.body;
      is = body.is;
      known = c.known_after-known.ensures.known body.txs body.body body.is;
      after = c.requires.offers body.txs body.body body.is;
    }

pub returns-clause-after : goal.returns-clause-after
returns-clause-after g c = λ txs body is.
    c.complete_accounts.ensures c.args.ledger txs c.known_after-known.ensures.kept body is
    (c.known_after-known.ensures.known txs body is) (c.requires.offers txs body is)
