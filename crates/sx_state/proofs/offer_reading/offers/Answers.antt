use Rattle.std.proofs.Common.{None}
use Rattle.std.proofs.lemmas.Result.{err_from_is_err_and}
use Rattle.sx_ledger.specs.Order.{key_of}
use Rattle.sx_state.specs.Decoding.{next_offer_at, offers_at}
use Rattle.sx_state.proofs.EntriesInOrder.{each_goes_on, each_ends, each_done}
use Rattle.sx_state.proofs.offer_reading.offers.Goals as goal

pub returns-in_err-offer : goal.returns-in_err-offer
returns-in_err-offer c =
    let p = err_from_is_err_and c.from_residual-in_err-offer.result c.from_residual-in_err-offer.ensures.1 in
    rw (p.1, p.2) (each_ends (next_offer_at c.args.accounts.now c.args.assets)
    key_of c.in_err-offer.field-0.0 c.loop.offers.items c.args.count c.loop.counter c.loop.before c.loop.from
    (offers_at c.args.accounts.now c.args.assets c.args.count None c.args.from.now)
    c.loop-test.true c.in_err-offer.ensures c.loop.invariant)

pub loop-preserved : goal.loop-preserved
loop-preserved c =
    rw (c.in_ok-push.ensures.items, c.key.ensures)
    (each_goes_on (next_offer_at c.args.accounts.now c.args.assets)
    key_of c.loop.offers.items c.args.count c.loop.counter c.loop.before c.loop.from c.in_ok-offer.offer
    c.next_offer.new.from (offers_at c.args.accounts.now c.args.assets c.args.count None c.args.from.now)
    c.loop-test.true c.in_ok-offer.ensures c.loop.invariant)

pub returns : goal.returns
returns c = rw c.of.ensures
    (each_done (next_offer_at c.args.accounts.now c.args.assets)
    key_of c.loop.offers.items c.args.count c.loop.counter c.loop.before c.loop.from
    (offers_at c.args.accounts.now c.args.assets c.args.count None c.args.from.now)
    c.loop-test.false c.loop.invariant)
