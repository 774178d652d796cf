use Rattle.std.proofs.Common.{◌≡◌, ◌+◌, ◌-◌, ◌≤◌, length, max, sym, ap, ◌∙◌, refl, arith}
use Rattle.std.proofs.lemmas.Result.{err_from_is_err_and}
use Rattle.sx_links.specs.Lists.{Lists, node_count}
use Rattle.sx_links.specs.Pool.{lists_of, IsSound}
use Rattle.sx_links.proofs.Sound.{IsSound-moved, IsSound-grown, settled, seen}
use Rattle.sx_links.proofs.links.Links.reserve.Goals as goal

pub invariant_of-self : goal.invariant_of-self
invariant_of-self g c = settled _ _ _
    (IsSound-moved c.self.inside.pool (record c.self.inside.pool { nodes = c.reserve.new.self }) _ _ refl refl
    c.reserve.ensures.items c.self.invariant)

pub returns-in_err-reserve-clause-err : goal.returns-in_err-reserve-clause-err
returns-in_err-reserve-clause-err g c =
    let p = err_from_is_err_and c.from_residual.result c.from_residual.ensures.1 in
    rw (p.1, ← c.self.view_is) (seen _ _ _
    (IsSound-moved c.self.inside.pool (record c.self.inside.pool { nodes = c.reserve.new.self }) _ _ refl refl
    c.reserve.ensures.items c.self.invariant))

pub grow-requires-clause-agrees : goal.grow-requires-clause-agrees
grow-requires-clause-agrees g c =
    (IsSound-moved c.self.inside.pool (record c.self.inside.pool { nodes = c.reserve.new.self }) _ _ refl refl
    c.reserve.ensures.items c.self.invariant).holds.chains.agrees

-- what the new nodes make of the pool
grown : (g : _) (c : goal.After-self-1 g) → IsSound c.grow.new.self (lists_of c.self.inside.pool) c.args.more
grown g c =
    let moved = IsSound-moved c.self.inside.pool (record c.self.inside.pool { nodes = c.reserve.new.self }) _ _ refl
    refl c.reserve.ensures.items c.self.invariant in
    let few = rw (← c.self.view_is) at c.requires in
    let sum : c.self.inside.spare + (c.args.more - c.self.inside.spare) ≡ c.args.more = omega arith in
    let nodes : length c.grow.new.self.nodes.items ≡ length c.reserve.new.self.items +
    (c.args.more - c.self.inside.spare) =
    omega (arith, c.grow.ensures.nodes, c.grow.new.self.nodes.ok.0, c.reserve.new.self.ok.0) in
    IsSound-grown (record c.self.inside.pool { nodes = c.reserve.new.self }) c.grow.new.self _ _ _ _ moved
    (c.grow.ensures.chains _ _ moved.holds) nodes sum few

pub invariant_of-self-2 : goal.invariant_of-self-2
invariant_of-self-2 g c = settled _ _ _ (grown g c)

pub returns-clause-ok : goal.returns-clause-ok
returns-clause-ok g c =
    let most : c.args.more ≡ max c.self.inside.spare c.args.more = omega arith in
    rw (← c.self.view_is) (seen _ _ _ (grown g c) ∙
    ap (λ n. record { lists = lists_of c.self.inside.pool; spare = n }) most)
