use Rattle.sx_event.proofs.Read.{ranges_read, sets_read, lows_read, whole_has_all}
use Rattle.sx_event.proofs.laws.rule_laws.Goals as goal

pub returns-clause-whole : goal.returns-clause-whole
returns-clause-whole c = whole_has_all

pub returns-clause-lows : goal.returns-clause-lows
returns-clause-lows c = lows_read

pub returns-clause-sets : goal.returns-clause-sets
returns-clause-sets c = sets_read

pub returns-clause-ranges : goal.returns-clause-ranges
returns-clause-ranges c = ranges_read
