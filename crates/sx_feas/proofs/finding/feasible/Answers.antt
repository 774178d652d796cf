use Rattle.sx_dual.specs.Tables.{value_of}
use Rattle.sx_feas.proofs.Balances.{circulation_of}
use Rattle.sx_feas.proofs.finding.feasible.Goals as goal

pub returns-clause-answer : goal.returns-clause-answer
returns-clause-answer g c = (
  c.in_ok-flow_of-in-None.ensures.assets,
  circulation_of c.args.bounds.now _ (value_of c.in_ok-flow_of-in-None.field-0) c.drain_all.ensures.shaped
      c.in_ok-flow_of-in-None.ensures.values c.in-None.ensures.balanced,
)
