use Rattle.std.proofs.Common.{rules, sym, subst, ◌<◌}
use Rattle.sx_shard.specs.Models.{Seated}
use Rattle.sx_shard.proofs.Keeping.{splits_as}
use Rattle.sx_shard.proofs.shard.Shard.split_as.Goals as goal

pub split_seat-requires : goal.split_seat-requires
split_seat-requires g c = (
  search rules,
  search rules,
  splits_as _ _ _ _ _ c.requires.event c.seat.invariant.0
      (subst (λ (seated : Seated). seated.view.from < c.args.at) (sym c.seat.view_is) c.requires.from)
      (subst (λ (seated : Seated). c.args.at < seated.view.end) (sym c.seat.view_is) c.requires.end),
)
