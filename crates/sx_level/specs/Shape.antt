-- The net of some bounds. Its nodes are the n assets, the source n and the sink n + 1. No public clause cites this
-- module.
use Rattle.std.specs.Prelude.{◌≡◌, ℕ, ◌+◌, ◌*◌, ◌<◌, ◌==◌, true, false, List, length, slice_index}
use Rattle.sx_dual.specs.Circulation.{sold, bought}
use Rattle.sx_dual.specs.Sums.{sum_below}
use Rattle.sx_dual.specs.Tables.{BoundsTable, low_of, high_of}
use Rattle.sx_net.specs.declared.arc.Arc.{Arc}
use Rattle.sx_net.specs.Arcs.{tail_of, head_of, left_of, is_allowed}

-- the places of a pair, of the source's arc to an asset and of an asset's arc to the sink. The arc at place k is 2k,
-- and its reverse 2k + 1.
abbrev pub pair_place : ℕ → ℕ → ℕ → ℕ
pair_place n sell buy = sell * n + buy

abbrev pub source_place : ℕ → ℕ → ℕ
source_place n asset = n * n + asset

abbrev pub sink_place : ℕ → ℕ → ℕ
sink_place n asset = n * n + n + asset

-- how many places there are
abbrev pub places : ℕ → ℕ
places n = n * n + n + n

-- what is left of a surplus, of a shortage, and of all surpluses
abbrev pub surplus_of : ℕ → List Arc → ℕ → ℕ
surplus_of n arcs asset = left_of arcs (2 * source_place n asset)

abbrev pub shortage_of : ℕ → List Arc → ℕ → ℕ
shortage_of n arcs asset = left_of arcs (2 * sink_place n asset)

abbrev pub total_surplus : ℕ → List Arc → ℕ
total_surplus n arcs = sum_below n (λ asset. surplus_of n arcs asset)

-- what a pair trades: its lower bound, and what can still be taken off
abbrev pub traded : BoundsTable → List Arc → ℕ → ℕ → ℕ
traded bounds arcs sell buy = low_of bounds sell buy + left_of arcs (2 * pair_place bounds.assets sell buy)

-- the arc at a place goes from one node to another, and its reverse back
pub record Joins (arcs : List Arc) (k from to : ℕ) : Type 0 where
  pub tail : tail_of arcs (2 * k) ≡ from
  pub head : head_of arcs (2 * k) ≡ to
  pub back_tail : tail_of arcs (2 * k + 1) ≡ to
  pub back_head : head_of arcs (2 * k + 1) ≡ from

-- the arc of a pair goes from the asset bought to the asset sold. What it has left can be taken off what the pair
-- trades, and what its reverse has left can be put on it.
pub record IsPairArc (bounds : BoundsTable) (arcs : List Arc) (sell buy : ℕ) : Type 0 where
  pub joins : Joins arcs (pair_place bounds.assets sell buy) buy sell
  pub both : is_allowed arcs (2 * pair_place bounds.assets sell buy + 1)
      ≡ is_allowed arcs (2 * pair_place bounds.assets sell buy)
  pub room : traded bounds arcs sell buy + left_of arcs (2 * pair_place bounds.assets sell buy + 1)
      ≡ high_of bounds sell buy

-- an arc that is allowed, and its reverse forbidden
pub record IsOneWay (arcs : List Arc) (k from to : ℕ) : Type 0 where
  pub joins : Joins arcs k from to
  pub forth : is_allowed arcs (2 * k) ≡ true
  pub back : is_allowed arcs (2 * k + 1) ≡ false

-- these are all the arcs
pub record IsShaped (bounds : BoundsTable) (arcs : List Arc) : Type 0 where
  pub count : length arcs ≡ 2 * places bounds.assets
  pub pairs : (sell buy : ℕ) → sell < bounds.assets → buy < bounds.assets → IsPairArc bounds arcs sell buy
  pub sources : (asset : ℕ) → asset < bounds.assets →
      IsOneWay arcs (source_place bounds.assets asset) bounds.assets asset
  pub sinks : (asset : ℕ) → asset < bounds.assets →
      IsOneWay arcs (sink_place bounds.assets asset) asset (bounds.assets + 1)

-- of each asset as much is bought as sold, but for its surplus or its shortage
abbrev pub AreMatched : BoundsTable → List Arc → Type 0
AreMatched bounds arcs =
    (asset : ℕ) → asset < bounds.assets →
    bought bounds.assets (traded bounds arcs) asset + shortage_of bounds.assets arcs asset
    ≡ sold bounds.assets (traded bounds arcs) asset + surplus_of bounds.assets arcs asset

-- exactly the pairs that gain nothing are allowed
abbrev pub AreAllowed : BoundsTable → List Arc → List ℕ → Type 0
AreAllowed bounds arcs heights =
    (sell buy : ℕ) → sell < bounds.assets → buy < bounds.assets →
    is_allowed arcs (2 * pair_place bounds.assets sell buy)
    ≡ (slice_index heights buy == slice_index heights sell + 1)

-- the arcs are the same, but for which are allowed
pub record SameButAllowed (old new : List Arc) : Type 0 where
  pub count : length new ≡ length old
  pub tails : (a : ℕ) → tail_of new a ≡ tail_of old a
  pub heads : (a : ℕ) → head_of new a ≡ head_of old a
  pub lefts : (a : ℕ) → left_of new a ≡ left_of old a
