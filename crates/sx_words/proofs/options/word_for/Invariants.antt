use Rattle.sx_words.proofs.OptionLaws.{HasFound}
use Rattle.sx_words.proofs.options.word_for.Given as goal

abbrev pub invariant-loop-one : goal.invariant-loop-one
invariant-loop-one l = HasFound l.setting l.given l.one-index l.word
