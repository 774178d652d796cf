use mathlib.Core.Path.{refl, subst}
use Prim.Native.Nat.{◌+◌}
use native.Mathlib.Omega.{arith}
use lib.ListN.{get_or}
use Rattle.std.specs.Fork.{ChangesAt}
use Rattle.sx_fork.proofs.each.for_each_mut.Goals as goal

pub returns : goal.returns
returns g c i d below = (
  refl,
  subst (λ place. ChangesAt g.F.Fn c.args.f.now place (get_or c.args.list.now i d) (get_or c.by_parts.new.part i d))
      {x = 0 + i} (omega arith) (c.by_parts.ensures.each i d below),
)
