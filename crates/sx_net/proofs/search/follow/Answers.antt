use Rattle.sx_net.proofs.Growing.{IsVisited-last}
use Rattle.sx_net.proofs.search.follow.Goals as goal

pub returns-then-is_open-clause-visited : goal.returns-then-is_open-clause-visited
returns-then-is_open-clause-visited c = λ _. rw (c.visit.ensures, ← c.look_up-node.ensures) (IsVisited-last _ _)
