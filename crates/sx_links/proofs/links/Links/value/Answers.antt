use Rattle.std.proofs.Common.{◌∙◌}
use Rattle.sx_links.proofs.Sound.{disjoint, value_is, has_value}
use Rattle.sx_links.proofs.links.Links.value.Goals as goal

pub value-requires : goal.value-requires
value-requires g c = has_value _ _ _ c.self.invariant c.args.node (rw (← c.self.view_is) at c.requires)

pub returns-clause-value : goal.returns-clause-value
returns-clause-value g c =
    rw (← c.self.view_is) (λ list place stands. value_is _ _ _ c.self.invariant list place c.args.node
    c.value.result.now stands c.value.ensures)

pub returns-clause-disjoint : goal.returns-clause-disjoint
returns-clause-disjoint g c = rw (← c.self.view_is) (disjoint _ _ _ c.self.invariant)
