use Rattle.sx_event.specs.declared.event.Event.TheVariants.{Claim}
use Rattle.sx_shard.proofs.shard.Shard.claim.Given as goal

-- the step is this event
abbrev pub ghosts-claim_as : goal.ghosts-claim_as
ghosts-claim_as a = record { event = Claim a.word a.bit }
