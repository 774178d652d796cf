use Rattle.std.proofs.Common.{◌≡◌, ℕ, length, map, take, drop}
use Rattle.sx_links.specs.Lists.{list_at, node_at, rest_from}
use Rattle.sx_tests_solver.proofs.links.values.Given as goal

abbrev pub invariant-loop-at : goal.invariant-loop-at
invariant-loop-at l = let xs = list_at l.links.lists l.list in record {
  place : ℕ;
  here : l.at ≡ node_at xs place;
  rest : rest_from l.at xs ≡ drop place xs;
  seen : l.values.items ≡ map (λ x. x.1) (take place xs);
}

abbrev pub decreases-loop-at : goal.decreases-loop-at
decreases-loop-at l = length (rest_from l.at (list_at l.links.lists l.list))
