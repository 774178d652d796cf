use Rattle.std.proofs.Common.{◌≡◌, ◌+◌, ◌-◌, ◌*◌, ◌≤◌, cond, length}
use Rattle.std.specs.Prelude.{IsTrue}
use Rattle.sx_run.specs.Following.{HasTaken}
use Rattle.sx_run.proofs.commands.following.follow.Given as goal
use Rattle.sx_meaning.specs.Replays.{most_blocks}

-- how many records may still come
abbrev pub decreases-loop-place : goal.decreases-loop-place
decreases-loop-place g l =
    2 * (most_blocks - length l.place.follower.blocks) + cond l.place.after_block 1 0

abbrev pub invariant-loop-place : goal.invariant-loop-place
invariant-loop-place g l = record {
  taken : HasTaken (g.S.Source.left l.fn.source) (g.S.Source.left l.source) l.place;
  falls_never : g.S.Source.faults l.fn.source ≤ g.S.Source.faults l.source;
  kept : g.S.Source.strict l.source ≡ g.S.Source.strict l.fn.source;
  steady : IsTrue (g.S.Source.strict l.fn.source) → g.S.Source.faults l.source ≡ g.S.Source.faults l.fn.source;
}
