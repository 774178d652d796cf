use Rattle.std.proofs.Common.{refl, ◌∙◌}
use Rattle.std.proofs.lemmas.List.{take_more}
use Rattle.sx_net.proofs.Balance.{moves_none, moves_more}
use Rattle.sx_net.proofs.Shifting.{Pushes-none, Pushes-more, SameEnds-pushed, HasReverse-same, untouched_before}
use Rattle.sx_net.proofs.Simple.{first_apart}
use Rattle.sx_net.proofs.pushing.push_along.Goals as goal

pub loop-arc-init : goal.loop-arc-init
loop-arc-init c = record {
  pushed = Pushes-none _ _;
  moved = λ tail head leads. moves_none _ _ tail head leads;
  listed = c.requires.listed;
  links = refl;
  lists = refl;
  spare = refl;
}

pub shift-requires-clause-reverse : goal.shift-requires-clause-reverse
shift-requires-clause-reverse c =
    HasReverse-same _ _ (SameEnds-pushed _ _ _ _ c.loop-arc.invariant.pushed) _
    (c.requires.reverses _ (c.requires.path.within c.loop-arc.arc-index 0 c.loop-arc-test.true))

pub shift-requires-clause-enough : goal.shift-requires-clause-enough
shift-requires-clause-enough c =
    rw (untouched_before _ _ _ _ _ c.loop-arc.invariant.pushed
    (first_apart _ _ c.requires.path c.loop-arc.arc-index c.loop-arc-test.true))
    (c.requires.enough c.loop-arc.arc-index 0 c.loop-arc-test.true)

pub shift-requires-clause-room : goal.shift-requires-clause-room
shift-requires-clause-room c =
    let within = c.requires.path.within c.loop-arc.arc-index 0 c.loop-arc-test.true in
    rw (c.loop-arc.invariant.pushed.rooms _ within) (c.requires.rooms _ within)

pub loop-arc-preserved : goal.loop-arc-preserved
loop-arc-preserved c =
    let so_far = c.loop-arc.invariant in
    rw (take_more c.args.path.now c.loop-arc.arc-index 0 c.loop-arc-test.true)
    (record {
      pushed = Pushes-more _ _ _ _ _ _ so_far.pushed c.shift.ensures.shifted
          (first_apart _ _ c.requires.path c.loop-arc.arc-index c.loop-arc-test.true);
      moved = moves_more _ _ _ _ _ _ so_far.moved c.shift.ensures.moved (so_far.pushed.tails _) (so_far.pushed.heads _);
      listed = c.shift.ensures.listed;
      links = c.shift.ensures.links ∙ so_far.links;
      lists = c.shift.ensures.lists ∙ so_far.lists;
      spare = c.shift.ensures.spare ∙ so_far.spare;
    })
