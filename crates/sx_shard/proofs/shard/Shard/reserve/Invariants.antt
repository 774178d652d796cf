use Rattle.sx_event.specs.declared.event.Event.TheVariants.{Look, Take}
use Rattle.sx_shard.proofs.Trying.{Tries}
use Rattle.sx_shard.proofs.shard.Shard.reserve.Given as goal

-- the first step is a look, and each one after it a take
abbrev pub ghosts-look_as : goal.ghosts-look_as
ghosts-look_as a = record { event = Look a.purse }

abbrev pub ghosts-take_as : goal.ghosts-take_as
ghosts-take_as a = record { event = Take a.purse a.need }

-- the seat has noted what was found so far
abbrev pub invariant-loop-seen : goal.invariant-loop-seen
invariant-loop-seen l = Tries l.self l.fn.seat.view l.purse l.need l.seen l.seat

-- a take that is lost finds less
abbrev pub decreases-loop-seen : goal.decreases-loop-seen
decreases-loop-seen l = l.seen
