use Rattle.std.proofs.Common.{List, ap, ◌∙◌}
use Rattle.sx_outcome.specs.declared.outcome.Outcome.{Outcome}
use Rattle.sx_text.specs.Demonstration.{demo_text}
use Rattle.sx_run.proofs.Demonstrations.{demonstrates, eight_assets, summed_up}
use Rattle.sx_run.proofs.commands.demonstrating.demonstrate.Goals as goal

pub demo_lines-requires : goal.demo_lines-requires
demo_lines-requires g c = eight_assets c.in_ok-made.made.block c.in_ok-made.ensures.made.cleared.valid

pub returns-clause-found : goal.returns-clause-found
returns-clause-found g c = λ before.
    let made = c.in_ok-made.made in
    let numbers = c.numbers_of-numbers in
    demonstrates c.args.number c.args.workers before c.in_ok-demo_lines.field-0
    (summed_up c.args.number numbers.result.mu numbers.result.rounds numbers.result.searches made.block made.outcomes
    c.in_ok-checked.checked c.in_ok-demo_lines.field-0 numbers.ensures.mu numbers.ensures.rounds numbers.ensures.searches
    c.in_ok-made.ensures.made c.in_ok-checked.ensures
    (c.in_ok-demo_lines.ensures
    ∙ ap (λ (told : List Outcome). demo_text c.args.number told c.in_ok-checked.checked made.block.header)
    c.in_ok-outcomes.ensures))
