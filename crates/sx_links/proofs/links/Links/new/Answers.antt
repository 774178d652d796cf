use Rattle.std.proofs.Common.{refl, rules}
use Rattle.sx_links.proofs.Sound.{IsSound-new, settled, seen}
use Rattle.sx_links.proofs.links.Links.new.Goals as goal

pub invariant_of-result : goal.invariant_of-result
invariant_of-result g c = settled _ _ _
    (IsSound-new _ c.args.lists refl (c.in_ok-vec.ensures.items_if_clones_equal (λ y cloned. search rules))
    c.new.ensures.items)

pub returns : goal.returns
returns g c = seen _ _ _ (IsSound-new _ c.args.lists refl
    (c.in_ok-vec.ensures.items_if_clones_equal (λ y cloned. search rules)) c.new.ensures.items)
