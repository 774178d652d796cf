use Rattle.std.proofs.Common.{◌≡◌, ◌+◌, ◌-◌, ◌≤◌, ap, arith}
use Rattle.std.proofs.lemmas.Bool.{OnTrue_at}
use Rattle.sx_level.specs.Shape.{total_surplus}
use Rattle.sx_level.proofs.Pushes.{push_follows, push_takes, follows_itself, follows_on}
use Rattle.sx_level.proofs.Counting.{few_pushes}
use Rattle.sx_level.proofs.pushing.push_all.Goals as goal

pub loop-net-init : goal.loop-net-init
loop-net-init g c = record {
  nodes = c.requires.nodes;
  follows = follows_itself c.args.bounds.now c.args.net.now.arcs c.requires.shaped c.requires.matched;
  rising = omega arith;
  taken =
      let none : c.args.steps.now - c.args.steps.now ≡ 0 = omega arith in
      rw none (omega arith);
}

pub push_most-requires-clause-within : goal.push_most-requires-clause-within
push_most-requires-clause-within g c =
    let arcs : c.search.new.self.arcs ≡ c.loop-net.net.arcs = ap (λ net. net.arcs) c.search.ensures.rest in
    let passable = OnTrue_at c.loop-net-test.true c.search.ensures.passable in
    rw arcs (λ k d lt. (passable k d lt).within)

pub push_most-requires-clause-kept : goal.push_most-requires-clause-kept
push_most-requires-clause-kept g c = OnTrue_at c.loop-net-test.true c.search.ensures.kept

pub loop-net-preserved : goal.loop-net-preserved
loop-net-preserved g c =
    let bounds = c.args.bounds.now in
    let n = bounds.assets in
    let old = c.loop-net.net.arcs in
    let new = c.push_most.new.net.arcs in
    let path = c.search.new.self.path in
    let inv = c.loop-net.invariant in
    let arcs : c.search.new.self.arcs ≡ c.loop-net.net.arcs = ap (λ net. net.arcs) c.search.ensures.rest in
    let passable = OnTrue_at c.loop-net-test.true c.search.ensures.passable in
    let way = rw c.assets-assets.ensures.assets at (OnTrue_at c.loop-net-test.true c.search.ensures.path) in
    let pushed = rw arcs at c.push_most.ensures.pushed in
    let moves = rw arcs at c.push_most.ensures.moved in
    let most = rw arcs at c.push_most.ensures.most in
    let amount = c.push_most.result in
    let at_least : c.args.scale ≤ amount = most c.args.scale c.ranges.scale.fits (λ k d lt. (passable k d lt).enough) in
    let moved = moves n (n + 1) way in
    let follows = push_follows old new path amount c.args.scale pushed passable bounds inv.follows.shaped
    c.assets-assets.ensures.bounds inv.follows.matched moved in
    let took = push_takes old new path amount c.args.scale pushed passable bounds inv.follows.shaped
    c.assets-assets.ensures.bounds inv.follows.matched moved in
    let more : c.search.new.steps - c.args.steps.now ≡ (c.loop-net.steps - c.args.steps.now) + 1 =
    omega (arith, c.search.ensures.counted, inv.rising) in
    record {
      nodes =
          let kept = ap (λ net. net.nodes) c.push_most.ensures.rest in
          let same = ap (λ net. net.nodes) c.search.ensures.rest in
          omega (arith, kept, same, inv.nodes);
      follows = follows_on bounds c.args.net.now.arcs old new inv.follows follows;
      rising = omega (arith, c.search.ensures.counted, inv.rising);
      taken = rw more (omega (arith, took, at_least, inv.taken));
    }

pub loop-net-smaller : goal.loop-net-smaller
loop-net-smaller g c =
    let bounds = c.args.bounds.now in
    let n = bounds.assets in
    let old = c.loop-net.net.arcs in
    let new = c.push_most.new.net.arcs in
    let path = c.search.new.self.path in
    let inv = c.loop-net.invariant in
    let arcs : c.search.new.self.arcs ≡ c.loop-net.net.arcs = ap (λ net. net.arcs) c.search.ensures.rest in
    let passable = OnTrue_at c.loop-net-test.true c.search.ensures.passable in
    let way = rw c.assets-assets.ensures.assets at (OnTrue_at c.loop-net-test.true c.search.ensures.path) in
    let pushed = rw arcs at c.push_most.ensures.pushed in
    let moves = rw arcs at c.push_most.ensures.moved in
    let most = rw arcs at c.push_most.ensures.most in
    let amount = c.push_most.result in
    let at_least : c.args.scale ≤ amount = most c.args.scale c.ranges.scale.fits (λ k d lt. (passable k d lt).enough) in
    let moved = moves n (n + 1) way in
    let took = push_takes old new path amount c.args.scale pushed passable bounds inv.follows.shaped
    c.assets-assets.ensures.bounds inv.follows.matched moved in
    omega (arith, took, at_least, c.requires.some)

pub returns-clause-follows : goal.returns-clause-follows
returns-clause-follows g c =
    let arcs : c.search.new.self.arcs ≡ c.loop-net.net.arcs = ap (λ net. net.arcs) c.search.ensures.rest in
    rw arcs c.loop-net.invariant.follows

pub returns-clause-counted : goal.returns-clause-counted
returns-clause-counted g c = λ r below.
    let n = c.args.bounds.now.assets in
    let inv = c.loop-net.invariant in
    let some = c.assets-assets.ensures.bounds.assets.some in
    let limit = below.limit c.loop-net.net.arcs inv.follows in
    let few = few_pushes n (c.loop-net.steps - c.args.steps.now) r c.args.scale below.most
    (total_surplus n c.args.net.now.arcs) (total_surplus n c.loop-net.net.arcs) some inv.taken limit below.below in
    omega (arith, few, c.search.ensures.counted, inv.rising)
