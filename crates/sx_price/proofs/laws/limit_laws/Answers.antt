use Rattle.std.proofs.Common.{◌*◌, ◌-◌, ◌^◌}
use Rattle.std.proofs.Math.Nat.{mul_right_comm, mul_assoc}
use Rattle.std.proofs.lemmas.Nat.{pow_pos}
use Rattle.sx_price.proofs.Products.{le_of_cut, le_along}
use Rattle.sx_price.proofs.laws.limit_laws.Goals as goal

pub returns-clause-must_is_may : goal.returns-clause-must_is_may
returns-clause-must_is_may c = λ sell buy limit j. le_of_cut _ _ (2 ^ j) (pow_pos j)

pub returns-clause-rate_keeps_may : goal.returns-clause-rate_keeps_may
returns-clause-rate_keeps_may c = λ sell buy sell' buy' limit. le_along _ _ _ _ _ _

pub returns-clause-rate_keeps_must : goal.returns-clause-rate_keeps_must
returns-clause-rate_keeps_must c =
    λ sell buy sell' buy' limit j positive rate below.
    rw (mul_right_comm limit buy' (2 ^ j), mul_assoc sell' (2 ^ 24) (2 ^ j - 1))
    (le_along (limit * 2 ^ j) (2 ^ 24 * (2 ^ j - 1)) buy buy' sell sell' positive rate
    (rw (← mul_right_comm limit buy (2 ^ j), ← mul_assoc sell (2 ^ 24) (2 ^ j - 1)) below))
