use Rattle.std.proofs.Common.{◌≡◌, ◌*◌, ◌^◌, ◌≤◌, take}
use Rattle.std.specs.Prelude.{sum_by}
use Rattle.sx_ledger.specs.Ledger.{offered}
use Rattle.sx_ledger.proofs.totals.on_offer.Given as goal

abbrev pub invariant-loop-offer : goal.invariant-loop-offer
invariant-loop-offer l = record {
  sum : l.on_offer ≡ sum_by (offered l.asset) (take l.offer-index l.offers);
  bound : l.on_offer ≤ l.offer-index * 2 ^ 62;
}
