use Rattle.std.proofs.Common.{arith}
use Rattle.sx_words.proofs.CommandLaws.{more_than_nothing}
use Rattle.sx_words.proofs.parsing.alone.Goals as goal

pub returns-else-is_empty : goal.returns-else-is_empty
returns-else-is_empty c =
    more_than_nothing c.args.command c.args.words.now
    (λ none. absurd (grind (arith, none, c.is_empty.ensures, c.if-is_empty.false)))
