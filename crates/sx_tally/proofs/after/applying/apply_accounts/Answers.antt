use Rattle.sx_tally.proofs.after.applying.apply_accounts.Goals as goal

pub complete_accounts-requires : goal.complete_accounts-requires
complete_accounts-requires c =
    let body = c.requires.body in
    record {
      before = c.args.ledger;
      ledger = c.apply_to_known-parts.ensures.kept;
      txs = body.txs;
      body = body.body;
      is = body.is;
      known = c.apply_to_known-parts.ensures.known body.txs body.body body.is;
      after = c.requires.offers body.txs body.body body.is;
    }

pub returns : goal.returns
returns c = λ txs body is.
    c.complete_accounts.ensures c.args.ledger txs c.apply_to_known-parts.ensures.kept body is
    (c.apply_to_known-parts.ensures.known txs body is) (c.requires.offers txs body is)
