use Rattle.sx_level.proofs.Counting.{digits_enough, digits_fewest}
use Rattle.sx_level.proofs.numbers.digits_of.Goals as goal

pub returns-clause-enough : goal.returns-clause-enough
returns-clause-enough c = digits_enough 128 c.args.value c.ranges.value.fits

pub returns-clause-fewest : goal.returns-clause-fewest
returns-clause-fewest c = λ b below. digits_fewest 128 c.args.value b c.ranges.value.fits below
