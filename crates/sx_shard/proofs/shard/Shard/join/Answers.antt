use Rattle.std.proofs.Common.{rules, sym, subst, ◌≡◌}
use Rattle.sx_shard.specs.Models.{Seated}
use Rattle.sx_shard.proofs.Keeping.{joins}
use Rattle.sx_shard.proofs.shard.Shard.join.Goals as goal

pub join_seat-requires : goal.join_seat-requires
join_seat-requires c = (
  search rules,
  search rules,
  search rules,
  search rules,
  joins _ _ _ _ _ c.seat.invariant.0 c.other.invariant.0
      (subst (λ (z : Seated × Seated). z.0.view.from ≡ z.1.view.end)
      (λ i. (sym c.other.view_is i, sym c.seat.view_is i)) c.requires.meets),
)
