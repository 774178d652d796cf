use Rattle.sx_state.proofs.FaultPlaces.{state_within}
use Rattle.sx_state.proofs.Lengths.{state_fits}
use Rattle.sx_state.proofs.Payload.{state_is_injective, state_is_prefix_free}
use Rattle.sx_state.proofs.laws.state_laws.Goals as goal

pub returns-clause-one : goal.returns-clause-one
returns-clause-one c = state_is_injective

pub returns-clause-first : goal.returns-clause-first
returns-clause-first c = state_is_prefix_free

pub returns-clause-fits : goal.returns-clause-fits
returns-clause-fits c = state_fits

pub returns-clause-within : goal.returns-clause-within
returns-clause-within c = state_within
