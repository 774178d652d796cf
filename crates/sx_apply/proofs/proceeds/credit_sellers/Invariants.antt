use Rattle.std.proofs.Common.{◌≡◌, map, take}
use Rattle.sx_apply.specs.FillSums.{paid_by}
use Rattle.sx_apply.proofs.proceeds.credit_sellers.Given as goal

abbrev pub invariant-loop-fill : goal.invariant-loop-fill
invariant-loop-fill l = l.accounts ≡ map (paid_by l.offers (take l.fill-index l.fills)) l.initial.accounts
