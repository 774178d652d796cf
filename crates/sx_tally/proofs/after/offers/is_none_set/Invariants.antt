use Rattle.std.proofs.Common.{◌≡◌, false, take}
use Rattle.std.specs.Prelude.{All}
use Rattle.sx_tally.proofs.after.offers.is_none_set.Given as goal

abbrev pub invariant-loop-flag : goal.invariant-loop-flag
invariant-loop-flag l = All (λ flag. flag ≡ false) (take l.flag-index l.flags)
