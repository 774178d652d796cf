use Rattle.std.proofs.Common.{None, ◌∙◌, arith}
use Rattle.std.proofs.lemmas.Result.{err_from_is_err_and}
use Rattle.sx_bytes.specs.declared.fault.ReadError.TheVariants as read_error
use Rattle.sx_ledger.specs.Order.{key_of}
use Rattle.sx_state.specs.Decoding.{placed_offer_at, placed_offers_at}
use Rattle.sx_state.proofs.EntriesInOrder.{each_goes_on, each_ends, each_done}
use Rattle.sx_state.proofs.offer_reading.placed_offers.Goals as goal

pub returns-in_err-offer-clause-exact : goal.returns-in_err-offer-clause-exact
returns-in_err-offer-clause-exact c =
    let p = err_from_is_err_and c.from_residual-in_err-offer.result c.from_residual-in_err-offer.ensures.1 in
    rw (p.1, p.2) (each_ends (placed_offer_at c.args.assets)
    key_of (read_error.Form c.in_err-offer.field-0.0) c.loop.offers.items c.args.count c.loop.counter c.loop.before
    c.loop.from (placed_offers_at c.args.assets c.args.count None c.args.from.now)
    c.loop-test.true c.in_err-offer.ensures.exact c.loop.invariant.decoded)

pub loop-preserved : goal.loop-preserved
loop-preserved c = record {
  decoded = rw (c.in_ok-push.ensures.items, c.key.ensures)
      (each_goes_on (placed_offer_at c.args.assets)
      key_of c.loop.offers.items c.args.count c.loop.counter c.loop.before c.loop.from c.in_ok-offer.offer
      c.placed_offer.new.from (placed_offers_at c.args.assets c.args.count None c.args.from.now)
      c.loop-test.true c.in_ok-offer.ensures.exact c.loop.invariant.decoded);
  same = c.in_ok-offer.ensures.same ∙ c.loop.invariant.same;
  onward = omega (arith, c.in_ok-offer.ensures.onward, c.loop.invariant.onward);
}

pub returns-clause-exact : goal.returns-clause-exact
returns-clause-exact c = rw c.of.ensures
    (each_done (placed_offer_at c.args.assets)
    key_of c.loop.offers.items c.args.count c.loop.counter c.loop.before c.loop.from
    (placed_offers_at c.args.assets c.args.count None c.args.from.now)
    c.loop-test.false c.loop.invariant.decoded)
