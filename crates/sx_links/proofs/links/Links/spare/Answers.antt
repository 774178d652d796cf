use Rattle.sx_links.proofs.Sound.{disjoint}
use Rattle.sx_links.proofs.links.Links.spare.Goals as goal

pub returns-clause-disjoint : goal.returns-clause-disjoint
returns-clause-disjoint g c = rw (← c.self.view_is) (disjoint _ _ _ c.self.invariant)
