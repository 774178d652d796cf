use Rattle.std.proofs.Common.{rules, sym, subst, length, ◌<◌}
use Rattle.sx_shard.specs.Models.{Shown}
use Rattle.sx_shard.proofs.Keeping.{looks_as}
use Rattle.sx_shard.proofs.shard.Shard.look_as.Goals as goal

pub load-requires : goal.load-requires
load-requires g c = (
  search rules,
  search rules,
  looks_as _ _ _ _ _ _ c.requires.event c.seat.invariant.0
      (subst (λ (shown : Shown). c.args.purse < length shown.purses) (sym c.self.view_is) c.requires.purse),
)
