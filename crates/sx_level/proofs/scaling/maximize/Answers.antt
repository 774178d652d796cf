use Rattle.std.proofs.Common.{◌-◌, ◌*◌, ◌^◌, ◌≤◌, ◌∙◌, arith}
use Rattle.std.proofs.lemmas.Nat.{pow_pos}
use Rattle.sx_level.specs.Shape.{pair_place}
use Rattle.sx_level.specs.Solved.{arc_count}
use Rattle.sx_level.proofs.Counting.{times_le, zero_digits}
use Rattle.sx_level.proofs.Limits.{limit_from_border, limit_from_surplus}
use Rattle.sx_level.proofs.Pushes.{follows_itself, follows_on}
use Rattle.sx_level.proofs.scaling.maximize.Goals as goal

pub digits_left-digits-requires-clause-allowed : goal.digits_left-digits-requires-clause-allowed
digits_left-digits-requires-clause-allowed g c = λ s b s_lt b_lt.
    let k = 2 * pair_place c.args.bounds.now.assets s b in
    c.push_scale-reached.ensures.follows.allowed k ∙ c.loop-digits.invariant.follows.allowed k
    ∙ c.requires.allowed s b s_lt b_lt

pub loop-digits-init : goal.loop-digits-init
loop-digits-init g c =
    let bounds = c.args.bounds.now in
    let arcs = c.args.net.now.arcs in
    let enough = c.digits_of-digits.ensures.enough in
    let first = limit_from_surplus bounds arcs c.greatest_surplus.result c.args.most c.min.result
    c.greatest_surplus.ensures.most c.requires.in_all (λ lt. omega (arith, c.min.ensures))
    (λ le. omega (arith, c.min.ensures)) in
    record {
      nodes = c.requires.nodes;
      few = c.digits_of-digits.ensures.few;
      follows = follows_itself bounds arcs c.requires.shaped c.requires.matched;
      limit = record {
        most = c.min.result;
        below = enough;
        limit = λ new follows. omega (arith, first);
      };
      closed = λ none some.
          let nothing = zero_digits c.min.result c.digits_of-digits.result none enough in
          let all = rw nothing at first in
          absurd (omega (arith, all, some));
      rising = omega arith;
      counted = omega arith;
    }

pub loop-digits-preserved : goal.loop-digits-preserved
loop-digits-preserved g c =
    let bounds = c.args.bounds.now in
    let n = bounds.assets in
    let inv = c.loop-digits.invariant in
    let pushed = c.push_scale-reached in
    let new = pushed.new.net.arcs in
    let set = pushed.result.0 in
    let next = c.digits_left-digits in
    let scales = times_le next.result (c.loop-digits.digits - 4) (arc_count n) next.ensures.fewer in
    record {
      nodes = pushed.ensures.nodes;
      few = next.ensures.few;
      follows = follows_on bounds c.args.net.now.arcs c.loop-digits.net.arcs new inv.follows pushed.ensures.follows;
      limit = record {
        most = 2 ^ next.result - 1;
        below = omega (arith, pow_pos next.result);
        limit = limit_from_border bounds new set (2 ^ next.result - 1) pushed.ensures.follows.shaped
            pushed.ensures.follows.matched next.ensures.most;
      };
      closed = λ none some. rw none at next.ensures.most;
      rising = omega (arith, pushed.ensures.rising, inv.rising);
      counted = omega (arith, scales, pushed.ensures.counted, inv.counted);
    }

pub loop-digits-smaller : goal.loop-digits-smaller
loop-digits-smaller g c = omega (arith, c.digits_left-digits.ensures.fewer, c.loop-digits-test.true)

pub returns-clause-counted : goal.returns-clause-counted
returns-clause-counted g c = λ b below.
    let few : c.digits_of-digits.result ≤ b = c.digits_of-digits.ensures.fewest b (omega (arith, c.min.ensures)) in
    let most = times_le c.digits_of-digits.result b (arc_count c.args.bounds.now.assets) few in
    omega (arith, most, c.loop-digits.invariant.counted)
