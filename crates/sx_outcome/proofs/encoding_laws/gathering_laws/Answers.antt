use Rattle.sx_outcome.proofs.GatheringLaws.{body_is_no_longer, free_is_accepted, static_is_exact}
use Rattle.sx_outcome.proofs.encoding_laws.gathering_laws.Goals as goal

pub returns : goal.returns
returns c = record { no_longer = body_is_no_longer; free = free_is_accepted; statics = static_is_exact }
