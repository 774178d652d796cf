use Rattle.std.proofs.Common.{◌≡◌, ℕ, length, take, drop}
use Rattle.sx_book.specs.Store.{list_of, offers_in}
use Rattle.sx_links.specs.Lists.{list_at, node_at, rest_from}
use Rattle.sx_book.proofs.store.Store.offers.Given as goal

abbrev pub invariant-loop-at : goal.invariant-loop-at
invariant-loop-at l = let xs = list_at l.self.lists.lists (list_of l.fn.sell l.fn.buy) in record {
  place : ℕ;
  here : l.at ≡ node_at xs place;
  rest : rest_from l.at xs ≡ drop place xs;
  seen : l.offers.items ≡ offers_in (take place xs);
}

abbrev pub decreases-loop-at : goal.decreases-loop-at
decreases-loop-at l = length (rest_from l.at (list_at l.self.lists.lists (list_of l.fn.sell l.fn.buy)))
