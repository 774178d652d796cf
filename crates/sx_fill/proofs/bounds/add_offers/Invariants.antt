use Rattle.std.proofs.Common.{length, take}
use Rattle.sx_fill.specs.Bounds.{AreValues}
use Rattle.sx_ledger.specs.Bounds.{may_trade_at, must_trade_at}
use Rattle.sx_fill.proofs.bounds.add_offers.Given as goal

abbrev pub invariant-loop-offer : goal.invariant-loop-offer
invariant-loop-offer l = record {
  low : AreValues (length l.prices) l.prices (must_trade_at l.prices l.mu)
      (take l.offer-index l.offers) l.low;
  high : AreValues (length l.prices) l.prices (may_trade_at l.prices)
      (take l.offer-index l.offers) l.high;
}
