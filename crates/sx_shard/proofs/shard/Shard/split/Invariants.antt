use Rattle.sx_event.specs.declared.event.Event.TheVariants.{Split}
use Rattle.sx_shard.proofs.shard.Shard.split.Given as goal

-- the step is this event
abbrev pub ghosts-split_as : goal.ghosts-split_as
ghosts-split_as a = record { event = Split a.at }
