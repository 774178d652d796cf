use Rattle.std.proofs.Common.{◌≡◌, List, [], ◌∷◌, Result, Ok, Err, Some, String, Vec, IfOk, refl, ap, ◌∙◌}
use Rattle.std.specs.Prelude.{codes}
use Rattle.std.specs.Global.{Global}
use Rattle.sx_customer.proofs.words.seal_line.Goals as goal
use Rattle.sx_meaning.specs.Answers.{asked}
use Rattle.sx_words.specs.declared.command.Command.TheVariants.{Seal}
use Rattle.sx_words.specs.Commands.{command_of}
use Rattle.sx_words.specs.Numbers.{Text, texts}

by_default : command_of (codes "seal" ∷ []) ≡ Some (Seal 4 16 10 500 1)
unfolding command_of
by_default = refl

of_line : {E : Type 0} (line : Result (Vec (String Global) Global) E)
    → IfOk line (λ words. texts words.items ≡ codes "seal" ∷ [])
    → IfOk line (λ words. asked words.items ≡ Some (Seal 4 16 10 500 1))
of_line (Ok words) is = ap (λ (t : List Text). command_of t) is ∙ by_default
of_line (Err error) is = tt

pub returns : goal.returns
returns c = of_line c.line_of.result c.line_of.ensures
