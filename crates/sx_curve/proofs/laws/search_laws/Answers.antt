use Rattle.sx_curve.proofs.Digits.{digits_are_least}
use Rattle.sx_curve.proofs.SearchLaws.{balanced_stays, no_rounds_stay, search_keeps_length, search_keeps_range}
use Rattle.sx_curve.proofs.SearchLaws.{search_mends, search_permuted}
use Rattle.sx_curve.proofs.laws.search_laws.Goals as goal

pub returns-clause-length : goal.returns-clause-length
returns-clause-length c = search_keeps_length

pub returns-clause-range : goal.returns-clause-range
returns-clause-range c = search_keeps_range

pub returns-clause-mends : goal.returns-clause-mends
returns-clause-mends c = search_mends

pub returns-clause-no_rounds : goal.returns-clause-no_rounds
returns-clause-no_rounds c = no_rounds_stay

pub returns-clause-balanced : goal.returns-clause-balanced
returns-clause-balanced c = balanced_stays

pub returns-clause-permuted : goal.returns-clause-permuted
returns-clause-permuted c = search_permuted

pub returns-clause-digits : goal.returns-clause-digits
returns-clause-digits c = digits_are_least
