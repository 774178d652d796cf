use Rattle.std.proofs.Common.{◌≡◌, ◌<◌, ◌+◌, sym, ap, subst, ◌∙◌, arith}
use Rattle.sx_links.specs.Pool.{place_of, lists_of}
use Rattle.sx_links.proofs.Linking.{before_within, HasPlace-same, Mutual-refill}
use Rattle.sx_links.proofs.Sound.{disjoint, free_some, fresh, HasPlace-named, apart_named, IsLinked-free}
use Rattle.sx_links.proofs.Sound.{IsSound-push, settled, seen, spot, placed, end_named}
use Rattle.sx_links.proofs.links.Links.push_after.Goals as goal

pub unwrap-node-requires : goal.unwrap-node-requires
unwrap-node-requires g c = rw c.next.ensures
    (free_some _ _ _ c.self.invariant (rw (← c.self.view_is) at c.requires.room))

pub detach-requires-clause-linked : goal.detach-requires-clause-linked
detach-requires-clause-linked g c =
    IsLinked-free _ _ _ c.self.invariant c.unwrap-node.result (sym c.next.ensures ∙ c.unwrap-node.ensures)

pub put-requires : goal.put-requires
put-requires g c =
    let within = before_within _ _ _
    (c.self.invariant.holds.chains.agrees _ _ (sym c.next.ensures ∙ c.unwrap-node.ensures)) in
    omega (arith, c.detach.ensures.nodes, c.detach.new.self.nodes.ok.0)

pub attach-requires-clause-place_in : goal.attach-requires-clause-place_in
attach-requires-clause-place_in g c =
    rw c.of.ensures
    (HasPlace-same c.self.inside.pool c.put.new.self _ (c.put.ensures.fronts ∙ c.detach.ensures.fronts)
    (c.put.ensures.nodes ∙ c.detach.ensures.nodes)
    (HasPlace-named _ _ _ c.self.invariant c.unwrap-node.result c.args.list c.args.after
    (rw (← c.self.view_is) at c.requires.list_in) (rw (← c.self.view_is) at c.requires.after_in)))

pub attach-requires-clause-node_in : goal.attach-requires-clause-node_in
attach-requires-clause-node_in g c =
    let within = before_within _ _ _
    (c.self.invariant.holds.chains.agrees _ _ (sym c.next.ensures ∙ c.unwrap-node.ensures)) in
    omega (arith, c.detach.ensures.nodes, c.put.ensures.nodes, c.put.new.self.nodes.ok.0)

pub attach-requires-clause-apart : goal.attach-requires-clause-apart
attach-requires-clause-apart g c =
    rw c.of.ensures (apart_named _ _ _ c.self.invariant c.unwrap-node.result
    (sym c.next.ensures ∙ c.unwrap-node.ensures) c.args.list c.args.after
    (rw (← c.self.view_is) at c.requires.after_in))

pub attach-requires-clause-agrees : goal.attach-requires-clause-agrees
attach-requires-clause-agrees g c =
    Mutual-refill c.detach.new.self c.put.new.self c.unwrap-node.result _ c.detach.ensures.agrees c.put.ensures

pub invariant_of-self : goal.invariant_of-self
invariant_of-self g c =
    let follows = sym c.next.ensures ∙ c.unwrap-node.ensures in
    let within = rw (← c.self.view_is) at c.requires.list_in in
    let at = spot _ c.args.list c.args.after (rw (← c.self.view_is) at c.requires.after_in) in
    settled _ _ _ (IsSound-push _ _ _ c.self.invariant c.unwrap-node.result _ _ _ c.args.list at.0 c.args.value
    c.of.result follows within at.1 (at.2 ∙ sym c.of.ensures) c.detach.ensures c.put.ensures c.attach.ensures)

pub returns-clause-fresh : goal.returns-clause-fresh
returns-clause-fresh g c = rw (← c.self.view_is)
    (fresh _ _ _ c.self.invariant c.unwrap-node.result (sym c.next.ensures ∙ c.unwrap-node.ensures))

pub returns-clause-front : goal.returns-clause-front
returns-clause-front g c =
    let follows = sym c.next.ensures ∙ c.unwrap-node.ensures in
    let within = rw (← c.self.view_is) at c.requires.list_in in
    rw (← c.self.view_is)
    (λ none. seen _ _ _ (IsSound-push _ _ _ c.self.invariant c.unwrap-node.result _ _ _ c.args.list 0 c.args.value
    c.of.result follows within (omega arith) (sym (c.of.ensures ∙ ap (place_of c.args.list) none))
    c.detach.ensures c.put.ensures c.attach.ensures))

pub returns-clause-after_node : goal.returns-clause-after_node
returns-clause-after_node g c =
    let follows = sym c.next.ensures ∙ c.unwrap-node.ensures in
    let within = rw (← c.self.view_is) at c.requires.list_in in
    rw (← c.self.view_is)
    (λ node place some stands. seen _ _ _
    (IsSound-push _ _ _ c.self.invariant c.unwrap-node.result _ _ _ c.args.list (place + 1) c.args.value
    c.of.result follows within (placed (lists_of c.self.inside.pool) c.args.list place node stands)
    (end_named (lists_of c.self.inside.pool) c.args.list place node stands ∙
    sym (c.of.ensures ∙ ap (place_of c.args.list) some)) c.detach.ensures c.put.ensures c.attach.ensures))

pub returns-clause-disjoint : goal.returns-clause-disjoint
returns-clause-disjoint g c =
    let follows = sym c.next.ensures ∙ c.unwrap-node.ensures in
    let within = rw (← c.self.view_is) at c.requires.list_in in
    let at = spot _ c.args.list c.args.after (rw (← c.self.view_is) at c.requires.after_in) in
    disjoint _ _ _ (settled _ _ _ (IsSound-push _ _ _ c.self.invariant c.unwrap-node.result _ _ _ c.args.list at.0
    c.args.value c.of.result follows within at.1 (at.2 ∙ sym c.of.ensures) c.detach.ensures c.put.ensures
    c.attach.ensures))
