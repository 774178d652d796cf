use Rattle.std.proofs.Common.{arith}
use Rattle.std.proofs.lemmas.Bool.{both_ways}
use Rattle.sx_level.proofs.Marking.{marked_itself, marked_others, marked_within, twice, unmarked}
use Rattle.sx_level.proofs.separating.with_above.Goals as goal

pub returns-then-heights-asset-clause-within : goal.returns-then-heights-asset-clause-within
returns-then-heights-asset-clause-within c = marked_within c.args.set c.args.asset c.requires.few c.requires.earlier

pub returns-then-heights-asset-clause-itself : goal.returns-then-heights-asset-clause-itself
returns-then-heights-asset-clause-itself c = (
  λ _. c.if-heights-asset.true,
  λ _. marked_itself c.args.set c.args.asset c.requires.few c.requires.earlier,
)

pub returns-then-heights-asset-clause-others : goal.returns-then-heights-asset-clause-others
returns-then-heights-asset-clause-others c = marked_others c.args.set c.args.asset c.requires.few c.requires.earlier

pub returns-else-heights-asset-clause-within : goal.returns-else-heights-asset-clause-within
returns-else-heights-asset-clause-within c = omega (arith, twice c.args.asset, c.requires.earlier)

pub returns-else-heights-asset-clause-itself : goal.returns-else-heights-asset-clause-itself
returns-else-heights-asset-clause-itself c = (
  λ is. absurd (both_ways _ (unmarked c.args.set c.args.asset c.requires.few c.requires.earlier) is),
  λ there. absurd (omega (arith, there, c.if-heights-asset.false)),
)
