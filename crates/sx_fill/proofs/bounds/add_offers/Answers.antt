use Rattle.std.proofs.Common.{length}
use Rattle.sx_fill.proofs.BoundLaws.{values_step}
use Rattle.sx_fill.proofs.bounds.add_offers.Goals as goal
use Rattle.sx_ledger.specs.Bounds.{may_trade_at, must_trade_at}

pub loop-offer-preserved : goal.loop-offer-preserved
loop-offer-preserved c =
    let prices = c.args.prices.now in
    let mu = c.args.mu in
    let n = length prices in
    let offers = c.args.offers.now in
    let i = c.loop-offer.offer-index in
    let offer = c.offer-item.result in
    let low = c.add_value.ensures in
    let high = c.add_value-in-loop-offer.ensures in
    record {
      low = values_step n prices (must_trade_at prices mu) c.must_trade_at.result offers i offer c.loop-offer.low
          c.add_value.new.entries c.requires.offers c.loop-offer-test.true c.offer-item.is c.must_trade_at.ensures
          c.loop-offer.invariant.low low.full low.small low.here low.elsewhere;
      high = values_step n prices (may_trade_at prices) c.may_trade_at.result offers i offer c.loop-offer.high
          c.add_value-in-loop-offer.new.entries c.requires.offers c.loop-offer-test.true c.offer-item.is
          c.may_trade_at.ensures c.loop-offer.invariant.high high.full high.small high.here high.elsewhere;
    }
