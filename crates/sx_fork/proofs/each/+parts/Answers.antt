use borrow.Author.Rules.{rules}
use mathlib.Core.Path.{refl}
use Prim.Native.Nat.{◌+◌}
use Rattle.sx_fork.proofs.Parts.{changes_both}
use Rattle.sx_fork.proofs.each.+parts.Goals as goal

pub by_parts-returns : goal.by_parts-returns
by_parts-returns g t c =
    changes_both g.F.Fn c.args.f.now c.args.base (c.args.base + c.div_ceil-share.result) c.args.part.now _ _ _ _ _
    c.split_at_mut-front.ensures.value refl (search rules) c.two_parts.ensures.front c.two_parts.ensures.back
