use Rattle.std.proofs.Common.{arith}
use Rattle.std.proofs.lemmas.Bool.{both_ways}
use Rattle.sx_level.proofs.Marking.{marked_itself, marked_others, marked_within, twice, unmarked}
use Rattle.sx_level.proofs.reaching.with_reached.Goals as goal

pub returns-then-reached-clause-within : goal.returns-then-reached-clause-within
returns-then-reached-clause-within c = marked_within c.args.set c.args.asset c.requires.few c.requires.earlier

pub returns-then-reached-clause-itself : goal.returns-then-reached-clause-itself
returns-then-reached-clause-itself c = (
  λ _. c.reached.ensures.0 c.if-reached.true,
  λ _. marked_itself c.args.set c.args.asset c.requires.few c.requires.earlier,
)

pub returns-then-reached-clause-others : goal.returns-then-reached-clause-others
returns-then-reached-clause-others c = marked_others c.args.set c.args.asset c.requires.few c.requires.earlier

pub returns-else-reached-clause-within : goal.returns-else-reached-clause-within
returns-else-reached-clause-within c = omega (arith, twice c.args.asset, c.requires.earlier)

pub returns-else-reached-clause-itself : goal.returns-else-reached-clause-itself
returns-else-reached-clause-itself c = (
  λ is. absurd (both_ways _ (unmarked c.args.set c.args.asset c.requires.few c.requires.earlier) is),
  λ there. absurd (both_ways _ c.if-reached.false (c.reached.ensures.1 there)),
)
