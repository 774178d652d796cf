use Rattle.std.proofs.Common.{◌≡◌, ◌-◌, Some}
use Rattle.sx_event.specs.Chains.{seek, seen_last}
use Rattle.sx_event.proofs.lows.Lows.get.Given as goal

abbrev pub invariant-look : goal.invariant-look
invariant-look l =
    seek (l.end - l.counter) l.self.entries l.self.links (Some l.table) l.purse ≡ seen_last l.self l.view l.purse
