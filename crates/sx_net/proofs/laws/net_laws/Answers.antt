use Rattle.std.proofs.Common.{◌≡◌, true, refl}
use Rattle.sx_net.proofs.Leading.{reaches_next, carried}
use Rattle.sx_net.proofs.laws.net_laws.Goals as goal

pub returns-clause-leaves : goal.returns-clause-leaves
returns-clause-leaves c arcs least tail a passable reach = reaches_next arcs least tail _ a reach passable refl

pub returns-clause-cut : goal.returns-clause-cut
returns-clause-cut c arcs least tail head is_in begins ends closed reach =
    let inside = carried arcs least (λ v. is_in v ≡ true) closed tail reach.path head reach.leads reach.passable
    begins in
    cc
