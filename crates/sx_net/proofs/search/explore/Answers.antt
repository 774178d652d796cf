use Rattle.std.proofs.Common.{◌<◌, inl, inr, ap, ◌∙◌, arith}
use Rattle.std.proofs.lemmas.Bool.Decides.{nat_tests}
use Rattle.std.proofs.lemmas.Option.{get_or_from_slice_get}
use Rattle.sx_net.specs.Visits.{no_visit}
use Rattle.sx_net.proofs.Growing.{node_same, IsVisited-more, length_more}
use Rattle.sx_net.proofs.Listing.{explored_by}
use Rattle.sx_net.proofs.search.explore.Goals as goal

pub returns-then-all-clause-explored : goal.returns-then-all-clause-explored
returns-then-all-clause-explored c a passable tail =
    let node = ap (λ x. x.node) (get_or_from_slice_get c.args.tree.now.visits c.args.from c.at-list.result no_visit
    c.at-list.ensures.visit) in
    let first = c.scan.ensures.more in
    let second = c.scan-then-all.ensures.more in
    let stays = node_same _ _ first c.args.from c.requires.from ∙ node in
    explored_by _ _ c.args.arcs.now c.args.least c.scan-then-all.new.tree.visits c.requires.listed c.at-list.result.node
    (IsVisited-more _ _ second _ (IsVisited-more _ _ first _
    (record { place = c.args.from; within = c.requires.from; is = node })))
    (λ p link b here is_open. IsVisited-more _ _ second _ (c.scan.ensures.followed p link b here is_open))
    (inr c.scan-then-all.ensures.followed) a passable
    (tail ∙ node_same _ _ second c.args.from (omega (arith, c.requires.from, length_more _ _ first)) ∙ stays)

pub returns-else-all-clause-explored : goal.returns-else-all-clause-explored
returns-else-all-clause-explored c a passable tail =
    let node = ap (λ x. x.node) (get_or_from_slice_get c.args.tree.now.visits c.args.from c.at-list.result no_visit
    c.at-list.ensures.visit) in
    let first = c.scan.ensures.more in
    let some : 0 < c.args.least = grind (arith, nat_tests) in
    explored_by _ _ c.args.arcs.now c.args.least c.scan.new.tree.visits c.requires.listed c.at-list.result.node
    (IsVisited-more _ _ first _ (record { place = c.args.from; within = c.requires.from; is = node }))
    c.scan.ensures.followed (inl some) a passable (tail ∙ node_same _ _ first c.args.from c.requires.from ∙ node)
