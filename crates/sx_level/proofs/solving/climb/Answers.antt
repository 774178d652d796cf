use Rattle.std.proofs.Common.{◌≡◌, ℕ, ◌+◌, ◌*◌, ◌<◌, length, arith}
use Rattle.std.specs.Prelude.{if◌then◌else◌, slice_index}
use Rattle.sx_dual.specs.Cuts.{is_in}
use Rattle.sx_level.specs.Solved.{arc_count}
use Rattle.sx_level.proofs.Climbing.{some_left, none_left, held_next, held_first}
use Rattle.sx_level.proofs.Counting.{times_le}
use Rattle.sx_level.proofs.Gaps.{gap_is_cut, settled_fits}
use Rattle.sx_level.proofs.Heights.{few_levels, raised_level}
use Rattle.sx_level.proofs.solving.climb.Goals as goal

pub settle-reached-requires-clause-low : goal.settle-reached-requires-clause-low
settle-reached-requires-clause-low g c = λ a lt. omega (arith, c.requires.flat a lt)

pub loop-reached-init : goal.loop-reached-init
loop-reached-init g c = record {
  nodes = c.settle-reached.ensures.nodes;
  count = c.requires.count;
  few = omega arith;
  is_level = c.settle-reached.ensures.level 0 c.requires.level;
  allowed = c.settle-reached.ensures.allowed;
  held = held_first c.args.bounds.now.assets c.args.heights.now c.requires.bounds.assets.some c.requires.flat;
  closed = c.settle-reached.ensures.closed;
  rising = c.settle-reached.ensures.rising;
  counted = λ b below. omega (arith, c.settle-reached.ensures.counted b below);
}

pub raise-requires-clause-count : goal.raise-requires-clause-count
raise-requires-clause-count g c = omega (arith, c.loop-reached.invariant.count, c.requires.bounds.assets.few)

pub raise-requires-clause-low : goal.raise-requires-clause-low
raise-requires-clause-low g c = λ a lt.
    let inv = c.loop-reached.invariant in
    omega (arith, inv.is_level.under a (omega (arith, lt, inv.count)), inv.few)

pub assets_above-requires : goal.assets_above-requires
assets_above-requires g c =
    omega (arith, c.raise.auto.heights, c.loop-reached.invariant.count, c.requires.bounds.assets.few)

pub returns-in-Some-clause-cut : goal.returns-in-Some-clause-cut
returns-in-Some-clause-cut g c =
    let bounds = c.args.bounds.now in
    let n = bounds.assets in
    let inv = c.loop-reached.invariant in
    let arcs = c.loop-reached.net.arcs in
    let before = c.loop-reached.heights in
    let after = c.raise.new.heights in
    let level = c.loop-reached.level in
    let set = c.loop-reached.reached.0 in
    let some = some_left n c.greatest_surplus.result arcs c.loop-reached-test.true c.greatest_surplus.ensures.least in
    let raised : (a : ℕ) → a < n → slice_index after a ≡ (if is_in set a then 1 else 0) + slice_index before a =
    λ a lt. c.raise.ensures a (omega (arith, lt, inv.count)) in
    let next = raised_level bounds arcs before after level c.args.most set inv.is_level inv.allowed (inv.closed some)
    raised in
    let count : length after ≡ n = omega (arith, c.raise.auto.heights, inv.count) in
    record {
      within = rw count at c.assets_above.ensures.within;
      cut =
          gap_is_cut bounds arcs after (level + 1) c.args.most c.assets_above.result.0 c.in-Some.gap next
          c.in-Some.ensures.below (λ a lt. c.in-Some.ensures.bare a (omega (arith, lt, count)))
          (λ a lt. c.assets_above.ensures.above a (omega (arith, lt, count))) some;
    }

pub returns-in-Some-clause-counted : goal.returns-in-Some-clause-counted
returns-in-Some-clause-counted g c = λ b below.
    let n = c.args.bounds.now.assets in
    let inv = c.loop-reached.invariant in
    let few = few_levels n c.loop-reached.level c.loop-reached.heights inv.held in
    omega (arith, times_le (c.loop-reached.level + 1) n (2 * b * arc_count n) few, inv.counted b below)

pub settle-reached-requires-in-loop-reached-clause-low : goal.settle-reached-requires-in-loop-reached-clause-low
settle-reached-requires-in-loop-reached-clause-low g c = λ a lt.
    let bounds = c.args.bounds.now in
    let n = bounds.assets in
    let inv = c.loop-reached.invariant in
    let arcs = c.loop-reached.net.arcs in
    let before = c.loop-reached.heights in
    let after = c.raise.new.heights in
    let level = c.loop-reached.level in
    let set = c.loop-reached.reached.0 in
    let some = some_left n c.greatest_surplus.result arcs c.loop-reached-test.true c.greatest_surplus.ensures.least in
    let raised : (a : ℕ) → a < n → slice_index after a ≡ (if is_in set a then 1 else 0) + slice_index before a =
    λ a lt. c.raise.ensures a (omega (arith, lt, inv.count)) in
    let next = raised_level bounds arcs before after level c.args.most set inv.is_level inv.allowed (inv.closed some)
    raised in
    let count : length after ≡ n = omega (arith, c.raise.auto.heights, inv.count) in
    omega (arith, next.under a lt, inv.few)

pub loop-reached-preserved : goal.loop-reached-preserved
loop-reached-preserved g c =
    let bounds = c.args.bounds.now in
    let n = bounds.assets in
    let inv = c.loop-reached.invariant in
    let arcs = c.loop-reached.net.arcs in
    let before = c.loop-reached.heights in
    let after = c.raise.new.heights in
    let level = c.loop-reached.level in
    let set = c.loop-reached.reached.0 in
    let some = some_left n c.greatest_surplus.result arcs c.loop-reached-test.true c.greatest_surplus.ensures.least in
    let raised : (a : ℕ) → a < n → slice_index after a ≡ (if is_in set a then 1 else 0) + slice_index before a =
    λ a lt. c.raise.ensures a (omega (arith, lt, inv.count)) in
    let next = raised_level bounds arcs before after level c.args.most set inv.is_level inv.allowed (inv.closed some)
    raised in
    let count : length after ≡ n = omega (arith, c.raise.auto.heights, inv.count) in
    let settled = c.settle-reached-in-loop-reached.ensures in
    let held = held_next bounds arcs after level c.args.most next some (rw count at c.in_default.ensures.none) in
    let few = few_levels n (level + 1) after held in
    record {
      nodes = settled.nodes;
      count = count;
      few = omega (arith, few, c.requires.bounds.assets.few);
      is_level = settled.level (level + 1) next;
      allowed = settled.allowed;
      held = held;
      closed = settled.closed;
      rising = omega (arith, settled.rising, inv.rising);
      counted = λ b below. omega (arith, settled.counted b below, inv.counted b below);
    }

pub loop-reached-smaller : goal.loop-reached-smaller
loop-reached-smaller g c =
    let few = few_levels c.args.bounds.now.assets c.loop-reached.level c.loop-reached.heights
    c.loop-reached.invariant.held in
    omega (arith, few)

pub returns-clause-fits : goal.returns-clause-fits
returns-clause-fits g c =
    let n = c.args.bounds.now.assets in
    let arcs = c.loop-reached.net.arcs in
    settled_fits c.args.bounds.now arcs c.loop-reached.heights c.loop-reached.level c.args.most
    c.loop-reached.invariant.is_level
    (none_left n c.greatest_surplus.result arcs c.loop-reached-test.false c.greatest_surplus.ensures.most)

pub returns-clause-counted : goal.returns-clause-counted
returns-clause-counted g c = λ b below.
    let n = c.args.bounds.now.assets in
    let inv = c.loop-reached.invariant in
    let few = few_levels n c.loop-reached.level c.loop-reached.heights inv.held in
    omega (arith, times_le (c.loop-reached.level + 1) n (2 * b * arc_count n) few, inv.counted b below)
