use Rattle.std.proofs.Common.{◌+◌, ◌/◌, sym, ap, ◌∙◌}
use Rattle.sx_links.specs.Lists.{list_at}
use Rattle.sx_net.specs.Arcs.{arc_at, head_of, IsOpen}
use Rattle.sx_net.specs.Visits.{IsVisited}
use Rattle.sx_net.proofs.Growing.{node_same, Extends-then, IsVisited-more}
use Rattle.sx_net.proofs.Listing.{list_half}
use Rattle.sx_net.proofs.Scanning.{shorter, last_place, seen_all}
use Rattle.sx_net.proofs.search.scan.Goals as goal

pub follow-requires-clause-arc : goal.follow-requires-clause-arc
follow-requires-clause-arc c =
    let so_far = c.loop-link.invariant in
    let stands = sym so_far.here ∙ c.in-Some.is in
    (c.requires.listed.entries c.args.list so_far.place c.in-Some.here c.value.result.now
    (c.value.ensures.value _ so_far.place stands)).within

pub follow-requires-clause-tail : goal.follow-requires-clause-tail
follow-requires-clause-tail c =
    let so_far = c.loop-link.invariant in
    let stands = sym so_far.here ∙ c.in-Some.is in
    let entry = c.requires.listed.entries c.args.list so_far.place c.in-Some.here c.value.result.now
    (c.value.ensures.value _ so_far.place stands) in
    sym (list_half (arc_at c.args.arcs.now c.value.result.now)) ∙ ap (λ l. l / 2) entry.in_list ∙ c.requires.node
    ∙ sym (node_same _ _ so_far.more c.args.from c.requires.from)

pub loop-link-smaller : goal.loop-link-smaller
loop-link-smaller c =
    let so_far = c.loop-link.invariant in
    let stands = sym so_far.here ∙ c.in-Some.is in
    rw (c.next-link.ensures.rest c.args.list so_far.place stands, so_far.rest)
    (shorter _ so_far.place _ (c.value.ensures.value c.args.list so_far.place stands))

pub loop-link-preserved : goal.loop-link-preserved
loop-link-preserved c =
    let so_far = c.loop-link.invariant in
    let stands = sym so_far.here ∙ c.in-Some.is in
    record {
      place = so_far.place + 1;
      here = c.next-link.ensures.next c.args.list so_far.place stands;
      rest = c.next-link.ensures.rest c.args.list so_far.place stands;
      nodes = c.follow.ensures.nodes ∙ so_far.nodes;
      linked = c.follow.ensures.linked;
      more = Extends-then _ _ _ so_far.more c.follow.ensures.more;
      followed = last_place (list_at c.args.leaving.now.lists c.args.list)
          (λ a. IsOpen c.args.arcs.now c.args.least a → IsVisited c.follow.new.tree.visits (head_of c.args.arcs.now a))
          so_far.place c.in-Some.here c.value.result.now
          (c.value.ensures.value c.args.list so_far.place stands)
          (λ p link a before here passable.
          IsVisited-more _ _ c.follow.ensures.more _ (so_far.followed p link a before here passable))
          c.follow.ensures.visited;
    }

pub returns-clause-followed : goal.returns-clause-followed
returns-clause-followed c p link a here passable =
    let so_far = c.loop-link.invariant in
    so_far.followed p link a (seen_all _ so_far.place c.loop-link.link c.in_default.is so_far.rest p _ here) here
    passable
