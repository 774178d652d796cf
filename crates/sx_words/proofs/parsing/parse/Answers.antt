use Rattle.sx_words.proofs.CommandLaws.{no_words}
use Rattle.sx_words.proofs.parsing.parse.Goals as goal

pub returns-in-empty-clause-usage : goal.returns-in-empty-clause-usage
returns-in-empty-clause-usage c = λ usage. no_words c.args.words.now c.in-empty.len_below
