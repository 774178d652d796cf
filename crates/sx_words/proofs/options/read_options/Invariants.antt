use Rattle.sx_words.proofs.OptionLaws.{HasRead}
use Rattle.sx_words.proofs.options.read_options.Given as goal

abbrev pub invariant-loop-word : goal.invariant-loop-word
invariant-loop-word l = HasRead l.settings l.words l.word-index l.given.items l.name
