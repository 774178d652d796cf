use Rattle.sx_words.proofs.CommandLaws.{named_by_no_form, nothing, reads_spelling}
use Rattle.sx_words.proofs.NumberLaws.{spells_one_way}
use Rattle.sx_words.proofs.laws.word_laws.Goals as goal

pub returns-clause-numbers : goal.returns-clause-numbers
returns-clause-numbers c = spells_one_way

pub returns-clause-spelling : goal.returns-clause-spelling
returns-clause-spelling c = reads_spelling

pub returns-clause-names : goal.returns-clause-names
returns-clause-names c = (nothing, named_by_no_form)
