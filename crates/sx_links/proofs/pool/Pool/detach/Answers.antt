use Rattle.std.proofs.Common.{◌≡◌, ◌≢◌, ◌<◌, length, sym, ap, ◌∙◌, arith}
use Rattle.sx_links.proofs.Linking.{before_within, HasPlace-followed, HasPlace-same, follows_before, one_before}
use Rattle.sx_links.proofs.Linking.{Removes-joins}
use Rattle.sx_links.proofs.pool.Pool.detach.Goals as goal

pub before-before-requires : goal.before-before-requires
before-before-requires g c =
    let within = before_within _ _ _ (c.requires.agrees _ _ c.requires.linked.follows) in
    omega (arith, c.args.self.now.nodes.ok.0)

pub next-next-requires : goal.next-next-requires
next-next-requires g c = before_within _ _ _ (c.requires.agrees _ _ c.requires.linked.follows)

pub set_next-requires : goal.set_next-requires
set_next-requires g c = before_within _ _ _ (c.requires.agrees _ _ c.requires.linked.follows)

pub link-requires-clause-place_in : goal.link-requires-clause-place_in
link-requires-clause-place_in g c =
    let follows = follows_before _ _ _ _ c.requires.agrees c.requires.linked.follows c.before-before.ensures in
    HasPlace-same c.args.self.now c.set_next.new.self c.before-before.result c.set_next.ensures.fronts
    c.set_next.ensures.nodes (HasPlace-followed _ _ _ follows)

pub link-requires-clause-next_in : goal.link-requires-clause-next_in
link-requires-clause-next_in g c m e =
    let within = before_within _ _ _ (c.requires.agrees _ m (sym c.next-next.ensures ∙ e)) in
    omega (arith, c.set_next.ensures.nodes, c.set_next.new.self.nodes.ok.0)

pub returns : goal.returns
returns g c =
    let linked = c.requires.linked in
    let follows = follows_before _ _ _ _ c.requires.agrees linked.follows c.before-before.ensures in
    let same = one_before _ _ _ _ c.requires.agrees follows linked.follows in
    Removes-joins c.args.self.now c.set_next.new.self c.link.new.self c.args.node c.before-before.result
    c.requires.agrees follows (λ e. linked.apart (sym same ∙ e)) c.set_next.ensures
    (rw (← c.next-next.ensures) c.link.ensures)
