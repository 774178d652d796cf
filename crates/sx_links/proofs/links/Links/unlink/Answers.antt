use Rattle.std.proofs.Common.{◌≡◌, ◌+◌, IsSome, sym, ap, subst, ◌∙◌, refl, arith}
use Rattle.std.specs.Option.{option_flatten}
use Rattle.sx_links.specs.Pool.{lists_of, IsSound}
use Rattle.sx_links.specs.Lists.{Stands}
use Rattle.sx_links.proofs.Linking.{Mutual-refill}
use Rattle.sx_links.proofs.Chains.{lists_of-sound}
use Rattle.sx_links.proofs.Sound.{disjoint, value_is, has_value, is_within, IsLinked-listed, IsSound-unlink, settled}
use Rattle.sx_links.proofs.Sound.{seen}
use Rattle.sx_links.proofs.links.Links.unlink.Goals as goal

pub detach-requires-clause-linked : goal.detach-requires-clause-linked
detach-requires-clause-linked g c =
    IsLinked-listed _ _ _ c.self.invariant c.args.node (rw (← c.self.view_is) at c.requires)

pub take-value-requires : goal.take-value-requires
take-value-requires g c =
    subst IsSome (sym (ap option_flatten (c.detach.ensures.slots c.args.node)))
    (has_value _ _ _ c.self.invariant c.args.node (rw (← c.self.view_is) at c.requires))

pub attach-requires-clause-node_in : goal.attach-requires-clause-node_in
attach-requires-clause-node_in g c =
    let within = is_within _ _ _ c.self.invariant c.args.node (rw (← c.self.view_is) at c.requires) in
    omega (arith, c.detach.ensures.nodes, c.take-value.ensures.taken.nodes, c.take-value.new.self.nodes.ok.0)

pub attach-requires-clause-agrees : goal.attach-requires-clause-agrees
attach-requires-clause-agrees g c =
    Mutual-refill c.detach.new.self c.take-value.new.self c.args.node _ c.detach.ensures.agrees
    c.take-value.ensures.taken

pub invariant_of-self : goal.invariant_of-self
invariant_of-self g c =
    let stands = rw (← c.self.view_is) at c.requires in
    settled _ _ _ (IsSound-unlink _ _ _ c.self.invariant c.args.node _ _ _ stands.0 stands.1 stands.2
    c.detach.ensures c.take-value.ensures.taken c.attach.ensures)

pub returns-clause-value : goal.returns-clause-value
returns-clause-value g c =
    let value = sym (ap option_flatten (c.detach.ensures.slots c.args.node)) ∙ c.take-value.ensures.value in
    rw (← c.self.view_is) (λ list place stands. value_is _ _ _ c.self.invariant list place c.args.node
    c.take-value.result stands value)

pub returns-clause-taken : goal.returns-clause-taken
returns-clause-taken g c =
    rw (← c.self.view_is) (λ list place stands. seen _ _ _
    (IsSound-unlink _ _ _ c.self.invariant c.args.node _ _ _ list place stands c.detach.ensures
    c.take-value.ensures.taken c.attach.ensures))

pub returns-clause-disjoint : goal.returns-clause-disjoint
returns-clause-disjoint g c = disjoint _ _ _ (let stands = rw (← c.self.view_is) at c.requires in
    settled _ _ _ (IsSound-unlink _ _ _ c.self.invariant c.args.node _ _ _ stands.0 stands.1 stands.2
    c.detach.ensures c.take-value.ensures.taken c.attach.ensures))
