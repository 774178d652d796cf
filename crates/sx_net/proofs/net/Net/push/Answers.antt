use Rattle.std.proofs.Common.{◌≡◌, length, arith, ap, ◌∙◌}
use Rattle.std.proofs.lemmas.List.{take_at}
use Rattle.sx_net.proofs.Shifting.{SameEnds-pushed}
use Rattle.sx_net.proofs.Simple.{IsPushable-none}
use Rattle.sx_net.proofs.Sounding.{IsSound-arcs, IsSound-path}
use Rattle.sx_net.proofs.net.Net.push.Goals as goal

pub invariant_of-self : goal.invariant_of-self
invariant_of-self c =
    let ends = SameEnds-pushed _ _ _ _ c.push_along.ensures.pushed in
    let same = rw c.as_mut_slice-2.ensures.value at ends in
    let many : length c.push_along.new.arcs ≡ c.self.inside.arcs.len = omega arith in
    let links : length c.push_along.new.links ≡ c.self.inside.links.len = omega arith in
    rw (take_at _ _ _ many, take_at _ _ _ links, c.clear.ensures.items)
    (IsSound-path _ _ _ _ _ _ _ _ _ (IsSound-arcs _ _ _ _ _ _ _ _ _ c.self.invariant _ _ _ same
    c.push_along.ensures.listed c.push_along.ensures.lists c.push_along.ensures.spare)
    _ _ (IsPushable-none _) c.clear.ensures.capacity)

pub returns-clause-moved : goal.returns-clause-moved
returns-clause-moved c tail head simple =
    let old = c.as_mut_slice-2.ensures.value ∙ ap (λ net. net.arcs) c.self.view_is in
    let way = c.as_slice.ensures.value ∙ ap (λ net. net.path) c.self.view_is in
    let moved = c.push_along.ensures.moved tail head (rw (old, way) simple.leads) in
    let now = rw old at moved in
    let many : length c.push_along.new.arcs ≡ c.self.inside.arcs.len = omega arith in
    rw (take_at _ _ _ many) now
