use Rattle.std.proofs.Common.{arith}
use Rattle.std.proofs.lemmas.Str.Pattern.{split_once_first}
use Rattle.sx_words.proofs.OptionLaws.{whole_of}
use Rattle.sx_words.proofs.options.parted.Goals as goal

pub returns-clause-whole : goal.returns-clause-whole
returns-clause-whole c =
    whole_of c.split_once.result c.args.word.now _
    (split_once_first 61 c.args.word.now c.split_once.result c.split_once.ensures.cases (omega arith))
