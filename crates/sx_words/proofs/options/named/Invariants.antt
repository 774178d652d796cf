use Rattle.std.proofs.Common.{◌≡◌, drop}
use Rattle.sx_words.specs.Options.{named}
use Rattle.sx_words.proofs.options.named.Given as goal

-- none of those before has the name
abbrev pub invariant-loop-setting : goal.invariant-loop-setting
invariant-loop-setting l = named l.settings l.name ≡ named (drop l.setting-index l.settings) l.name
