use Rattle.std.proofs.Common.{rules, sym, subst, length, ◌<◌}
use Rattle.sx_shard.specs.Models.{Shown}
use Rattle.sx_shard.proofs.Keeping.{claims_as}
use Rattle.sx_shard.proofs.shard.Shard.claim_as.Goals as goal

pub fetch_or-requires : goal.fetch_or-requires
fetch_or-requires g c = (
  search rules,
  search rules,
  claims_as c.self.inside.table.shared.key _ _ _ c.args.word c.args.bit _ _ _ c.requires.event (search rules)
      c.seat.invariant.0
      (subst (λ (shown : Shown). c.args.word < length shown.bits) (sym c.self.view_is) c.requires.word)
      c.requires.bit (search rules),
)
