use Rattle.std.proofs.Common.{◌<◌, length, ap, ◌∙◌, arith}
use Rattle.std.proofs.lemmas.List.{reverse-append}
use Rattle.std.proofs.lemmas.Option.{get_or_from_slice_get}
use Rattle.sx_net.specs.Visits.{no_visit}
use Rattle.sx_net.proofs.search.trace.Goals as goal

pub loop-at-preserved : goal.loop-at-preserved
loop-at-preserved c =
    let so_far = c.loop-at.invariant in
    let visit = get_or_from_slice_get c.args.tree.now.visits c.loop-at.at c.at-visit.result no_visit
    c.at-visit.ensures.visit in
    let within : c.loop-at.at < length c.args.tree.now.visits = omega arith in
    let earlier = c.requires.earlier c.loop-at.at c.loop-at-test.true within in
    let from = ap (λ x. x.from) visit in
    record {
      back = rw (c.push_reserved.ensures.items, reverse-append)
          (c.loop-at.at, c.loop-at-test.true, within, ap (λ x. x.arc) visit, from, so_far.back);
      room = c.push_reserved.ensures.capacity ∙ so_far.room;
      few = omega (arith, c.push_reserved.ensures.len, earlier, from);
    }
