-- The net as its arcs are added. No public clause cites this module.
use Rattle.std.specs.Prelude.{◌≡◌, ℕ, ◌+◌, ◌-◌, ◌*◌, ◌<◌, Bool, true, false, List, length}
use Rattle.sx_dual.specs.Circulation.{sold, bought}
use Rattle.sx_dual.specs.Tables.{BoundsTable, low_of, high_of}
use Rattle.sx_net.specs.declared.arc.Arc.{Arc}
use Rattle.sx_net.specs.Arcs.{arc_at}
use Rattle.sx_net.specs.Network.{Network}
use Rattle.sx_level.specs.Shape.{pair_place, source_place, sink_place, places}

-- what an asset is bought more than sold, or sold more than bought, where each pair trades its upper bound
abbrev pub first_surplus : BoundsTable → ℕ → ℕ
first_surplus bounds asset =
    bought bounds.assets (high_of bounds) asset - sold bounds.assets (high_of bounds) asset

abbrev pub first_shortage : BoundsTable → ℕ → ℕ
first_shortage bounds asset =
    sold bounds.assets (high_of bounds) asset - bought bounds.assets (high_of bounds) asset

-- an arc with this room was added at the place, and its reverse, which is allowed or forbidden
pub record IsAdded (arcs : List Arc) (k tail head room : ℕ) (both : Bool) : Type 0 where
  pub forth : arc_at arcs (2 * k) ≡ record { tail = tail; head = head; left = room; allowed = true }
  pub back : arc_at arcs (2 * k + 1) ≡ record { tail = head; head = tail; left = 0; allowed = both }

-- the first arcs are what they were
abbrev pub SameBelow : List Arc → List Arc → ℕ → Type 0
SameBelow old new count = (a : ℕ) → a < count → arc_at new a ≡ arc_at old a

-- the net has the arcs of the first places, and room for the others
pub record HasArcs (bounds : BoundsTable) (net : Network) (made : ℕ) : Type 0 where
  pub nodes : net.nodes ≡ bounds.assets + 2
  pub count : length net.arcs ≡ 2 * made
  pub spare : net.spare + made ≡ places bounds.assets
  pub pairs : (sell buy : ℕ) → sell < bounds.assets → buy < bounds.assets →
      pair_place bounds.assets sell buy < made →
      IsAdded net.arcs (pair_place bounds.assets sell buy) buy sell
      (high_of bounds sell buy - low_of bounds sell buy) true
  pub sources : (asset : ℕ) → asset < bounds.assets → source_place bounds.assets asset < made →
      IsAdded net.arcs (source_place bounds.assets asset) bounds.assets asset (first_surplus bounds asset) false
  pub sinks : (asset : ℕ) → asset < bounds.assets → sink_place bounds.assets asset < made →
      IsAdded net.arcs (sink_place bounds.assets asset) asset (bounds.assets + 1) (first_shortage bounds asset) false
