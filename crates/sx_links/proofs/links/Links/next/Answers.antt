use Rattle.std.proofs.Common.{◌+◌, ◌∙◌}
use Rattle.sx_links.proofs.Chains.{within_at}
use Rattle.sx_links.proofs.Sound.{disjoint, next_is, rest_is, is_within}
use Rattle.sx_links.proofs.links.Links.next.Goals as goal

pub next-requires : goal.next-requires
next-requires g c = is_within _ _ _ c.self.invariant c.args.node (rw (← c.self.view_is) at c.requires)

pub returns-clause-next : goal.returns-clause-next
returns-clause-next g c =
    rw (← c.self.view_is) (λ list place stands. c.next.ensures ∙
    next_is _ _ _ c.self.invariant list place c.args.node stands)

pub returns-clause-rest : goal.returns-clause-rest
returns-clause-rest g c =
    rw (← c.self.view_is)
    (λ list place stands. rest_is _ _ _ c.self.invariant list (place + 1) c.next.result
    (within_at _ list place c.args.node stands)
    (c.next.ensures ∙ next_is _ _ _ c.self.invariant list place c.args.node stands))

pub returns-clause-disjoint : goal.returns-clause-disjoint
returns-clause-disjoint g c = rw (← c.self.view_is) (disjoint _ _ _ c.self.invariant)
