use borrow.Author.Count.{below_more}
use mathlib.Core.Path.{◌≡◌, sym, subst, ◌∙◌}
use Prim.Native.Nat.{ℕ, ◌+◌, ◌<◌}
use native.Mathlib.Omega.{arith}
use lib.ListN.{length, get_or, set}
use Rattle.std.proofs.lemmas.List.{get_or-set_same, get_or-set_other, get_or_default, length-set}
use Rattle.std.specs.Fork.{ChangesAt}
use Rattle.sx_fork.proofs.each.in_turn.Goals as goal

pub loop-k-preserved : goal.loop-k-preserved
loop-k-preserved g c =
    let k = c.loop-k.k in
    let was = c.args.part.now in
    let xs = c.loop-k.part in
    let x = c.call_at.new.element in
    let here : k < length xs = omega (arith, c.loop-k.invariant.0) in
    let left : ChangesAt g.F.Fn c.args.f.now (c.args.base + k) (get_or xs k c.index-part-k.result) x =
    c.call_at.ensures in
    let changed : (j : ℕ) → g.row.T.Denot → g.row.T.Denot → Type 0 =
    λ j. ChangesAt g.F.Fn c.args.f.now (c.args.base + j) in
    let was_there : (d : g.row.T.Denot) → get_or xs k c.index-part-k.result ≡ get_or was k d =
    λ d. get_or_default xs k _ d here ∙ c.loop-k.invariant.1 k d (omega arith) in (
      length-set xs k x ∙ c.loop-k.invariant.0,
      λ j d above. get_or-set_other xs k j x d (λ e. omega arith) ∙ c.loop-k.invariant.1 j d (omega arith),
      λ j d below. below_more (λ i. changed i (get_or was i d) (get_or (set xs k x) i d)) k
          (λ i less. subst (changed i (get_or was i d)) (sym (get_or-set_other xs k i x d (λ e. omega arith)))
          (c.loop-k.invariant.2 i d less))
          (subst (changed k (get_or was k d)) (sym (get_or-set_same xs k x d here))
          (subst (λ u. changed k u x) (was_there d) left))
          j below,
    )
