use Rattle.std.proofs.Common.{◌∙◌}
use Rattle.sx_links.proofs.Sound.{disjoint, first_is, rest_is}
use Rattle.sx_links.proofs.links.Links.first.Goals as goal

pub returns-clause-first : goal.returns-clause-first
returns-clause-first g c = rw (← c.self.view_is)
    (c.next.ensures ∙ first_is _ _ _ c.self.invariant c.args.list (rw (← c.self.view_is) at c.requires))

pub returns-clause-rest : goal.returns-clause-rest
returns-clause-rest g c =
    let within = rw (← c.self.view_is) at c.requires in
    rw (← c.self.view_is) (rest_is _ _ _ c.self.invariant c.args.list 0 c.next.result within
    (c.next.ensures ∙ first_is _ _ _ c.self.invariant c.args.list within))

pub returns-clause-disjoint : goal.returns-clause-disjoint
returns-clause-disjoint g c = rw (← c.self.view_is) (disjoint _ _ _ c.self.invariant)
