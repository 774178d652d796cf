-- The net of some bounds. Its nodes are the assets, and one node more to which no arc leads. No public clause cites
-- this module.
use Rattle.std.specs.Prelude.{◌≡◌, ℕ, ◌+◌, ◌*◌, ◌<◌, ◌≤◌, List, IsTrue, length}
use Rattle.sx_dual.specs.Circulation.{sold, bought}
use Rattle.sx_dual.specs.Tables.{BoundsTable, low_of, high_of}
use Rattle.sx_net.specs.declared.arc.Arc.{Arc}
use Rattle.sx_net.specs.Arcs.{tail_of, head_of, left_of, is_allowed, reverse_of}
use Rattle.sx_net.specs.Network.{Network, only_at}

-- the arc of a pair; its reverse is the next one
abbrev pub pair_arc : ℕ → ℕ → ℕ → ℕ
pair_arc n sell buy = 2 * (sell * n + buy)

-- what a pair trades: its lower bound and what went through its arc
abbrev pub traded : BoundsTable → List Arc → ℕ → ℕ → ℕ
traded bounds arcs sell buy = low_of bounds sell buy + left_of arcs (pair_arc bounds.assets sell buy + 1)

abbrev pub sold_now : BoundsTable → List Arc → ℕ → ℕ
sold_now bounds arcs asset = sold bounds.assets (traded bounds arcs) asset

abbrev pub bought_now : BoundsTable → List Arc → ℕ → ℕ
bought_now bounds arcs asset = bought bounds.assets (traded bounds arcs) asset

-- the arc of the pair goes from the asset sold to the asset bought, and its reverse back. What it has left and what
-- the pair trades make up the upper bound.
pub record IsPairArc (bounds : BoundsTable) (arcs : List Arc) (sell buy : ℕ) : Type 0 where
  pub tail : tail_of arcs (pair_arc bounds.assets sell buy) ≡ sell
  pub head : head_of arcs (pair_arc bounds.assets sell buy) ≡ buy
  pub allowed : IsTrue (is_allowed arcs (pair_arc bounds.assets sell buy))
  pub reverse : reverse_of (pair_arc bounds.assets sell buy) ≡ pair_arc bounds.assets sell buy + 1
  pub back_tail : tail_of arcs (pair_arc bounds.assets sell buy + 1) ≡ buy
  pub back_head : head_of arcs (pair_arc bounds.assets sell buy + 1) ≡ sell
  pub back_allowed : IsTrue (is_allowed arcs (pair_arc bounds.assets sell buy + 1))
  pub room : left_of arcs (pair_arc bounds.assets sell buy) + traded bounds arcs sell buy ≡ high_of bounds sell buy

-- these are all the arcs
pub record IsShaped (bounds : BoundsTable) (arcs : List Arc) : Type 0 where
  pub count : length arcs ≡ 2 * (bounds.assets * bounds.assets)
  pub pairs : (sell buy : ℕ) → sell < bounds.assets → buy < bounds.assets → IsPairArc bounds arcs sell buy

-- the net has the arcs of the first pairs, and room for the others
pub record HasArcs (bounds : BoundsTable) (net : Network) (pairs : ℕ) : Type 0 where
  pub nodes : net.nodes ≡ bounds.assets + 1
  pub count : length net.arcs ≡ 2 * pairs
  pub spare : net.spare + pairs ≡ bounds.assets * bounds.assets
  pub made : (sell buy : ℕ) → buy < bounds.assets → sell * bounds.assets + buy < pairs →
      IsPairArc bounds net.arcs sell buy

-- what an asset is bought more than sold goes down by the amount at one asset and up at another
abbrev pub Moves : BoundsTable → List Arc → List Arc → ℕ → ℕ → ℕ → Type 0
Moves bounds old new from to amount =
    (asset : ℕ) → asset < bounds.assets →
    bought_now bounds new asset + sold_now bounds old asset + only_at from amount asset
    ≡ bought_now bounds old asset + sold_now bounds new asset + only_at to amount asset

-- no asset comes to be bought more than it is sold
abbrev pub KeepsCovered : BoundsTable → List Arc → List Arc → Type 0
KeepsCovered bounds old new =
    (asset : ℕ) → asset < bounds.assets → bought_now bounds old asset ≤ sold_now bounds old asset →
    bought_now bounds new asset ≤ sold_now bounds new asset
