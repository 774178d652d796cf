use Rattle.std.proofs.Common.{◌≡◌, ◌+◌, ◌-◌, ◌*◌, ◌≤◌, cond}
use Rattle.std.specs.Prelude.{IsTrue}
use Rattle.sx_meaning.specs.Replays.{most_blocks}
use Rattle.sx_run.specs.Replaying.{HasReplayed}
use Rattle.sx_run.proofs.commands.replaying.replay.Given as goal

-- how many records may still come
abbrev pub decreases-loop-place : goal.decreases-loop-place
decreases-loop-place g l = 2 * (most_blocks - l.place.blocks) + cond l.place.after_block 1 0

abbrev pub invariant-loop-place : goal.invariant-loop-place
invariant-loop-place g l = record {
  replayed : HasReplayed (g.S.Source.left l.fn.source) (g.S.Source.left l.source) l.place;
  falls_never : g.S.Source.faults l.fn.source ≤ g.S.Source.faults l.source;
  kept : g.S.Source.strict l.source ≡ g.S.Source.strict l.fn.source;
  steady : IsTrue (g.S.Source.strict l.fn.source) → g.S.Source.faults l.source ≡ g.S.Source.faults l.fn.source;
}
