use Rattle.std.proofs.Common.{◌≡◌, suc, ◌+◌, length}
use Rattle.std.specs.Vec.Iter.{into_iter_items, into_iter_len}
use Rattle.sx_multi.specs.Posted.{posted}
use Rattle.sx_multi.specs.Slots.{AreFound, EndsAt}
use Rattle.sx_multi.proofs.many.search_many.Given as goal

abbrev pub invariant-loop-slot : goal.invariant-loop-slot
invariant-loop-slot g l = record {
  best : EndsAt l.curves.quotes l.fn.mu
      (posted l.curves.quotes l.start l.fn.mu l.rounds (suc (length l.yielded))) l.best;
  rest : AreFound l.curves.quotes l.start l.fn.mu l.rounds (suc (length l.yielded)) (into_iter_items l.slot-iterator);
  count : length l.yielded + 1 + into_iter_len l.slot-iterator ≡ l.searches;
}
