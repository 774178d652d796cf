use Rattle.std.proofs.Common.{◌≡◌, take}
use Rattle.sx_book.specs.Store.{IsSound, offers_of}
use Rattle.sx_book.proofs.store.Store.of.Given as goal

abbrev pub invariant-loop-offer : goal.invariant-loop-offer
invariant-loop-offer l = record {
  sound : IsSound l.store;
  so_far : offers_of l.store ≡ take l.offer-index l.offers;
}
