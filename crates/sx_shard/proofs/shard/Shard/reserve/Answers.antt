use Rattle.sx_shard.proofs.Trying.{last_seen, won, lost}
use Rattle.sx_shard.proofs.shard.Shard.reserve.Goals as goal

pub take_as-found-requires-clause-seen : goal.take_as-found-requires-clause-seen
take_as-found-requires-clause-seen c = last_seen _ _ _ _ _ _ c.loop-seen.invariant

pub returns-then-found-seen-clause-ok : goal.returns-then-found-seen-clause-ok
returns-then-found-seen-clause-ok c =
    won _ _ _ c.take_as-found.new.seat _ _ _ _ c.loop-seen.invariant c.loop-seen-test.true c.if-found-seen.true
    c.take_as-found.ensures.view

pub loop-seen-smaller : goal.loop-seen-smaller
loop-seen-smaller c =
    (lost _ _ _ _ _ _ _ _ c.loop-seen.invariant c.loop-seen-test.true c.if-found-seen.false
    c.take_as-found.ensures.of c.take_as-found.ensures.view
    c.take_as-found.ensures.fresh).1

pub loop-seen-preserved : goal.loop-seen-preserved
loop-seen-preserved c =
    (lost _ _ _ _ _ _ _ _ c.loop-seen.invariant c.loop-seen-test.true c.if-found-seen.false
    c.take_as-found.ensures.of c.take_as-found.ensures.view
    c.take_as-found.ensures.fresh).0
