use Rattle.std.proofs.Common.{◌≡◌, take}
use Rattle.sx_curve.proofs.curves.built.Given as goal

abbrev pub invariant-loop-quote : goal.invariant-loop-quote
invariant-loop-quote l = l.builder ≡ take l.quote-index l.quotes
