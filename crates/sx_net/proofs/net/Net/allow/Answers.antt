use Rattle.std.proofs.Common.{◌≡◌, length, ap, arith}
use Rattle.std.proofs.lemmas.List.{take_at}
use Rattle.sx_net.proofs.Sounding.{IsSound-arcs, SameEnds-set}
use Rattle.sx_net.proofs.net.Net.allow.Goals as goal

pub invariant_of-self : goal.invariant_of-self
invariant_of-self c =
    let within = rw (← c.self.view_is) at c.requires in
    let was = rw c.as_slice.ensures.value at c.look_up-before.ensures in
    let now = rw c.as_mut_slice-then-changes.ensures.value at c.replace.ensures.arcs in
    let ends = SameEnds-set _ c.args.arc _ within (ap (λ x. x.tail) was) (ap (λ x. x.head) was) (ap (λ x. x.left) was) in
    let many : length c.replace.new.arcs ≡ c.self.inside.arcs.len = omega arith in
    let links : length c.replace.new.links ≡ c.self.inside.links.len = omega arith in
    rw (take_at _ _ _ many, take_at _ _ _ links)
    (IsSound-arcs _ _ _ _ _ _ _ _ _ c.self.invariant _ _ _ (rw now ends) c.replace.ensures.listed
    c.replace.ensures.lists c.replace.ensures.spare)
