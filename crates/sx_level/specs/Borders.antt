-- What is left on the allowed arcs that lead out of the source and a set of assets. No public clause cites this module.
use Rattle.std.specs.Prelude.{ℕ, ◌+◌, ◌*◌, ◌<◌, ◌≤◌, List, if◌then◌else◌}
use Rattle.sx_dual.specs.Cuts.{is_in, goes_in, goes_out}
use Rattle.sx_net.specs.declared.arc.Arc.{Arc}
use Rattle.sx_net.specs.Arcs.{left_of, is_allowed}
use Rattle.sx_level.specs.Shape.{pair_place, surplus_of, shortage_of}

-- from the source to an asset outside of the set, or from one inside to the sink
abbrev pub border_at : ℕ → List Arc → ℕ → ℕ → ℕ
border_at n arcs set asset = if is_in set asset then shortage_of n arcs asset else surplus_of n arcs asset

-- between the two assets of a pair, which is put on where it goes out of the set, and taken off where it goes in
abbrev pub border_open : ℕ → List Arc → ℕ → ℕ → ℕ → ℕ
border_open n arcs set sell buy =
    if goes_out set sell buy then left_of arcs (2 * pair_place n sell buy + 1)
    else (if goes_in set sell buy then left_of arcs (2 * pair_place n sell buy) else 0)

abbrev pub border_between : ℕ → List Arc → ℕ → ℕ → ℕ → ℕ
border_between n arcs set sell buy =
    if is_allowed arcs (2 * pair_place n sell buy) then border_open n arcs set sell buy else 0

-- none of these arcs has more left
pub record LeavesAtMost (n : ℕ) (arcs : List Arc) (set most : ℕ) : Type 0 where
  pub at : (asset : ℕ) → asset < n → border_at n arcs set asset ≤ most
  pub between : (sell buy : ℕ) → sell < n → buy < n → border_between n arcs set sell buy ≤ most
