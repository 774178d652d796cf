use Rattle.std.proofs.Common.{List, Ok, length, ap, subst, ◌∙◌}
use Rattle.sx_bytes.specs.declared.memory.NoMemory.{NoMemory}
use Rattle.sx_clear.specs.Digests.{IsBodyDigest}
use Rattle.sx_clear.specs.Found.{IsBodyOf}
use Rattle.sx_multi.specs.Quotes.{posted_at, quotes_of}
use Rattle.sx_clear.specs.Trading.{IsCountedAt, IsTrading}
use Rattle.sx_clear.proofs.BlockLaws.{drops_exactly}
use Rattle.sx_clear.proofs.PriceLaws.{mends_from, posted_length}
use Rattle.sx_clear.proofs.Tradings.{counted_block}
use Rattle.sx_clear.proofs.clearing_in_place.clear_in_place.Goals as goal
use Rattle.sx_block.proofs.ValidBlocks.{block_trades_most}
use Rattle.sx_ledger.specs.Body.{body_after}
use Rattle.sx_tx.specs.declared.tx.Tx.{Tx}

pub trade_body-requires-clause-assets : goal.trade_body-requires-clause-assets
trade_body-requires-clause-assets g c =
    let parts = c.args.ledger in
    ap length c.in_ok-written.ensures.prices
    ∙ posted_length (quotes_of (body_after parts c.items.result.now).offers) parts.prices c.args.mu c.args.rounds
    c.args.searches

pub closed-requires-clause-hash : goal.closed-requires-clause-hash
closed-requires-clause-hash g c = λ κs out.
    subst (λ (xs : List Tx). IsBodyDigest xs c.in_ok-written.written.digest) c.items.ensures
    c.in_ok-written.ensures.written.digest

pub closed-requires-clause-body : goal.closed-requires-clause-body
closed-requires-clause-body g c = λ κs out.
    subst (λ (xs : List Tx). IsBodyOf c.args.ledger xs c.in_ok-written.opened.body) c.items.ensures
    c.in_ok-written.ensures.body

pub closed-requires-clause-assets : goal.closed-requires-clause-assets
closed-requires-clause-assets g c = λ κs out.
    let parts = c.args.ledger in
    ap length c.in_ok-written.ensures.prices
    ∙ posted_length (quotes_of (body_after parts c.items.result.now).offers) parts.prices c.args.mu c.args.rounds
    c.args.searches

pub closed-requires-clause-trading : goal.closed-requires-clause-trading
closed-requires-clause-trading g c = λ κs out.
    let opened = c.in_ok-written.opened in
    subst (λ (xs : List Tx). IsTrading c.args.ledger xs opened.body opened.prices c.args.mu c.in_ok-trading.trading)
    c.items-2.ensures c.in_ok-trading.ensures.trading

pub returns-clause-mends : goal.returns-clause-mends
returns-clause-mends g c =
    let parts = c.args.ledger in
    mends_from {E = NoMemory} parts c.args.txs c.args.mu c.args.rounds c.args.searches c.in_ok-written.opened.prices
    (Ok c.in_ok-block.block)
    (c.in_ok-written.ensures.prices
    ∙ ap (λ (xs : List Tx). posted_at parts xs c.args.mu c.args.rounds c.args.searches) c.items.ensures)
    c.in_ok-block.ensures.txs c.in_ok-block.ensures.prices

pub returns-clause-greatest : goal.returns-clause-greatest
returns-clause-greatest g c = block_trades_most c.args.ledger c.in_ok-block.block c.in_ok-block.ensures.valid

pub returns-clause-dropped : goal.returns-clause-dropped
returns-clause-dropped g c = drops_exactly c.args.ledger c.in_ok-block.block c.in_ok-block.ensures.valid

pub returns-clause-counted : goal.returns-clause-counted
returns-clause-counted g c =
    let parts = c.args.ledger in
    let prices = c.in_ok-written.opened.prices in
    counted_block {E = NoMemory} parts c.args.txs prices c.args.steps.now c.trade_body.new.steps
    (Ok c.in_ok-block.block)
    (subst (λ (xs : List Tx). IsCountedAt parts xs prices c.args.steps.now c.trade_body.new.steps) c.items-2.ensures
    c.trade_body.ensures.counted)
    c.in_ok-block.ensures.txs c.in_ok-block.ensures.prices
