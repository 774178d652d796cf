use Rattle.std.proofs.Common.{◌≢◌, sym, ◌∙◌, arith, rules}
use Rattle.std.proofs.lemmas.Grind.{common_steps}
use Rattle.sx_block.specs.Rule as rule
use Rattle.sx_follow.proofs.leaving.step_in_place.Goals as goal

pub returns-then-ne-clause-refused : goal.returns-then-ne-clause-refused
returns-then-ne-clause-refused c = λ valid.
    let differ : c.args.block.now.header.parent ≢ c.args.digest.now =
    first_of (search rules, grind (arith, common_steps)) in
    differ (valid.rules rule.Parent ∙ sym c.requires.digest)
