use Rattle.std.proofs.Common.{◌≡◌, ◌*◌, ◌<◌, ◌^◌, ap, arith}
use Rattle.sx_net.proofs.Sounding.{IsSound-none}
use Rattle.sx_net.proofs.net.Net.new.Goals as goal

pub invariant_of-result-2 : goal.invariant_of-result-2
invariant_of-result-2 c =
    let made = c.in_ok-leaving.ensures in
    let room = rw made at c.in_ok-reserve.ensures.ok in
    let nodes = ap (λ t. t.nodes) c.in_ok-new.ensures in
    let doubled : c.in-Some.lists ≡ 2 * c.args.nodes = omega (arith, c.in-Some.ensures) in
    let few : c.in-Some.lists < 2 ^ 32 = omega (arith, c.in-Some.ensures) in
    rw (
      c.leaving.view_is,
      room,
      c.in_ok-with_capacity.ensures.items,
      c.in_ok-with_capacity-2.ensures.items,
      c.in_ok-with_capacity-3.ensures.items,
      nodes,
    )
    (IsSound-none c.in-Some.lists _ _ c.args.nodes _ c.args.arcs _ doubled few (omega arith)
    (omega (arith, c.in_ok-with_capacity.ensures.capacity, c.requires))
    (omega (arith, c.in_ok-with_capacity-2.ensures.capacity, c.requires)) c.requires
    (omega (arith, c.in_ok-with_capacity-3.ensures.capacity)))
