use Rattle.std.proofs.Common.{refl, ◌∙◌}
use Rattle.sx_clear.proofs.Tradings.{terms_of}
use Rattle.sx_clear.proofs.clearing_in_place.closed.Goals as goal
use Rattle.sx_dual.specs.Tables.{value_of}

pub block_of-requires-clause-digests : goal.block_of-requires-clause-digests
block_of-requires-clause-digests g c =
    rw c.of-snapshot.ensures (record {
      parent = record {
        hash = c.wait.ensures.hash ∙ c.requires.parent;
        whole = c.wait.ensures.digest c.requires.whole;
      };
      body = c.requires.hash;
    })

pub block_of-requires-clause-terms : goal.block_of-requires-clause-terms
block_of-requires-clause-terms g c =
    let parts = c.args.ledger in
    let txs = c.args.txs in
    let trading = c.args.trading in
    let trades = c.requires.trading in
    let left = c.in_ok-after.ensures.hash txs (value_of trading.trade.flow) c.requires.admissible c.requires.body
    (c.items.ensures ∙ trades.fills) in
    rw c.of-snapshot.ensures (terms_of parts txs c.args.body trading
    (record {
      mu = c.args.mu;
      prices = c.args.prices;
      trade = trading.trade;
      rounding = trading.filled.rounding;
      after = c.in_ok-after.after;
    })
    trades c.requires.assets c.requires.in_range refl refl left)
