use Rattle.std.proofs.Common.{rules, ◌≡◌, length, arith}
use Rattle.std.proofs.lemmas.List.{take_at}
use Rattle.sx_net.proofs.Indexing.{IsIndexed-none}
use Rattle.sx_net.proofs.tree.Tree.clear.Goals as goal

pub invariant_of-self : goal.invariant_of-self
invariant_of-self c =
    let filled = c.fill.ensures.after (λ y cloned. search rules) in
    let many : length c.as_mut_slice.result.now ≡ length c.self.inside.places.items = omega arith in
    let same : length c.fill.new.self ≡ c.self.inside.places.len = omega arith in
    rw (c.clear.ensures.items, c.clear.ensures.capacity, take_at _ _ _ same, filled, many)
    (IsIndexed-none _ _ c.self.invariant.room c.self.invariant.few)
