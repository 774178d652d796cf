use Rattle.std.proofs.Common.{arith}
use Rattle.sx_links.proofs.Sound.{disjoint, is_within, IsSound-set, settled, seen}
use Rattle.sx_links.proofs.links.Links.set_value.Goals as goal

pub put-requires : goal.put-requires
put-requires g c =
    let within = is_within _ _ _ c.self.invariant c.args.node (rw (← c.self.view_is) at c.requires) in
    omega (arith, c.self.inside.pool.nodes.ok.0)

pub invariant_of-self : goal.invariant_of-self
invariant_of-self g c =
    let stands = rw (← c.self.view_is) at c.requires in
    settled _ _ _ (IsSound-set _ _ _ c.self.invariant c.args.node _ stands.0 stands.1 c.args.value stands.2
    c.put.ensures)

pub returns-clause-set : goal.returns-clause-set
returns-clause-set g c =
    rw (← c.self.view_is)
    (λ list place stands. seen _ _ _
    (IsSound-set _ _ _ c.self.invariant c.args.node _ list place c.args.value stands c.put.ensures))

pub returns-clause-disjoint : goal.returns-clause-disjoint
returns-clause-disjoint g c = disjoint _ _ _ (let stands = rw (← c.self.view_is) at c.requires in
    settled _ _ _ (IsSound-set _ _ _ c.self.invariant c.args.node _ stands.0 stands.1 c.args.value stands.2
    c.put.ensures))
