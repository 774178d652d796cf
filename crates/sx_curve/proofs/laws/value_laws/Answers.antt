use Rattle.sx_curve.proofs.PairValues.{mid_is_covered, must_and_mid, must_are_below, sold_permuted, value_within_bounds}
use Rattle.sx_curve.proofs.laws.value_laws.Goals as goal

pub returns-clause-must_are_below : goal.returns-clause-must_are_below
returns-clause-must_are_below c = must_are_below

pub returns-clause-must_and_mid : goal.returns-clause-must_and_mid
returns-clause-must_and_mid c = must_and_mid

pub returns-clause-mid_is_covered : goal.returns-clause-mid_is_covered
returns-clause-mid_is_covered c = mid_is_covered

pub returns-clause-within_bounds : goal.returns-clause-within_bounds
returns-clause-within_bounds c = value_within_bounds

pub returns-clause-permuted : goal.returns-clause-permuted
returns-clause-permuted c = sold_permuted
