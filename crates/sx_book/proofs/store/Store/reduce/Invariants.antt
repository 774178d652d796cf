use Rattle.std.proofs.Common.{◌≡◌, drop}
use Rattle.sx_book.specs.Store.{IsSound, SoFar, list_of}
use Rattle.sx_book.proofs.store.Store.reduce.Given as goal

abbrev pub invariant-loop-fill : goal.invariant-loop-fill
invariant-loop-fill l = record {
  sound : IsSound l.self;
  so_far : SoFar l.fn.self.lists.lists l.self.lists.lists (list_of l.fn.sell l.fn.buy) l.fills
      (drop l.fill-index l.fills)
      l.at l.place;
}
