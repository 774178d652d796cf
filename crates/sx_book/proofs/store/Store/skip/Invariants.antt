use Rattle.std.proofs.Common.{◌≡◌, ℕ, ◌+◌}
use Rattle.std.specs.Option.{ForSome}
use Rattle.sx_links.specs.Lists.{Stands, list_at, node_at}
use Rattle.sx_book.proofs.store.Store.skip.Given as goal

abbrev pub invariant-loop-step : goal.invariant-loop-step
invariant-loop-step l = record {
  stands : ForSome l.at (Stands l.self.lists.lists);
  here : (list place : ℕ) → l.initial.at ≡ node_at (list_at l.self.lists.lists list) place
      → l.at ≡ node_at (list_at l.self.lists.lists list) (place + l._step);
}
