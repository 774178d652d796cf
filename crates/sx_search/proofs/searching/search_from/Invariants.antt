use Rattle.std.proofs.Common.{◌≡◌}
use Rattle.sx_curve.specs.Search.{first_held, held_after}
use Rattle.sx_search.specs.Points.{held_at}
use Rattle.sx_search.specs.States.{IsState}
use Rattle.sx_search.proofs.searching.search_from.Given as goal

abbrev pub invariant-loop-left : goal.invariant-loop-left
invariant-loop-left g l = record {
  state : IsState l.curves.assets l.curves.quotes l.mu l.state;
  rest : held_after l.curves.quotes l.mu l.left (held_at l.state.held l.state.exponent)
      ≡ held_after l.curves.quotes l.mu l.rounds (first_held l.first l.start);
}

abbrev pub decreases-loop-left : goal.decreases-loop-left
decreases-loop-left g l = l.left
