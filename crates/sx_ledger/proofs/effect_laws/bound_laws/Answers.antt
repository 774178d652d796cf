use Rattle.sx_ledger.proofs.MustWithinMay.{low_within_high, must_within_may}
use Rattle.sx_ledger.proofs.effect_laws.bound_laws.Goals as goal

pub returns-clause-must_within_may : goal.returns-clause-must_within_may
returns-clause-must_within_may c = must_within_may

pub returns-clause-low_within_high : goal.returns-clause-low_within_high
returns-clause-low_within_high c = low_within_high
