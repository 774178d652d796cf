use Rattle.std.proofs.Common.{rules, sym, subst, length, ◌<◌, ◌≡◌, Some}
use Rattle.sx_event.specs.View.{last_low}
use Rattle.sx_shard.specs.Models.{Shown, Seated}
use Rattle.sx_shard.proofs.Keeping.{takes_as}
use Rattle.sx_shard.proofs.shard.Shard.take_as.Goals as goal

pub compare_exchange-requires : goal.compare_exchange-requires
compare_exchange-requires g c = (
  search rules,
  search rules,
  takes_as _ _ _ _ _ _ _ _ c.requires.event c.seat.invariant.0
      (subst (λ (shown : Shown). c.args.purse < length shown.purses) (sym c.self.view_is) c.requires.purse)
      c.requires.need.0 c.requires.need.1
      (subst (λ (seated : Seated). last_low c.args.purse seated.view.notes ≡ Some c.args.seen) (sym c.seat.view_is)
      c.requires.seen),
)
