use Rattle.std.proofs.Common.{length, Some}
use Rattle.sx_event.specs.Chains.{newest_of}
use Rattle.sx_event.proofs.Chaining.{seek_same}
use Rattle.sx_event.proofs.lows.Lows.reserve.Goals as goal

pub returns-in_err-reserve-clause-seen : goal.returns-in_err-reserve-clause-seen
returns-in_err-reserve-clause-seen c = λ view purse.
    rw (← c.self.view_is) (seek_same (length c.self.inside.links.items) c.self.inside.tables.entries
    c.reserve.new.self.entries c.self.inside.links.items
    (Some (newest_of c.self.inside.links.items view)) purse (λ table. c.reserve.ensures.values table purse))

pub returns-in_err-reserve-2-clause-seen : goal.returns-in_err-reserve-2-clause-seen
returns-in_err-reserve-2-clause-seen c = λ view purse.
    rw (← c.self.view_is, c.reserve-2.ensures.items)
    (seek_same (length c.self.inside.links.items) c.self.inside.tables.entries c.reserve.new.self.entries
    c.self.inside.links.items
    (Some (newest_of c.self.inside.links.items view)) purse (λ table. c.reserve.ensures.values table purse))

pub returns-clause-seen : goal.returns-clause-seen
returns-clause-seen c = λ view purse.
    rw (← c.self.view_is, c.reserve-2.ensures.items)
    (seek_same (length c.self.inside.links.items) c.self.inside.tables.entries c.reserve.new.self.entries
    c.self.inside.links.items
    (Some (newest_of c.self.inside.links.items view)) purse (λ table. c.reserve.ensures.values table purse))
