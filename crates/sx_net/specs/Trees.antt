-- How the visits of a search hang together. No public clause cites this module.
use Rattle.std.specs.Prelude.{◌≡◌, ℕ, ◌<◌, List, [], ◌∷◌, ◌++◌, length}
use Rattle.sx_net.specs.declared.arc.Arc.{Arc}
use Rattle.sx_net.specs.declared.tree.Visit.{Visit}
use Rattle.sx_net.specs.Arcs.{tail_of, head_of, IsOpen}
use Rattle.sx_net.specs.Visits.{node_at, arc_to, from_at, IsVisited}

-- the node of this visit was reached by an open arc from the node of an earlier visit
pub record IsLinked (arcs : List Arc) (least : ℕ) (visits : List Visit) (place : ℕ) : Type 0 where
  pub earlier : from_at visits place < place
  pub is_open : IsOpen arcs least (arc_to visits place)
  pub tail : tail_of arcs (arc_to visits place) ≡ node_at visits (from_at visits place)
  pub head : head_of arcs (arc_to visits place) ≡ node_at visits place

-- so was each but the first
pub record IsTree (arcs : List Arc) (least : ℕ) (visits : List Visit) : Type 0 where
  pub some : 0 < length visits
  pub linked : (place : ℕ) → 0 < place → place < length visits → IsLinked arcs least visits place

-- the arcs by which the visits lead from one place to another
abbrev pub LeadsBack : List Visit → ℕ → List ℕ → ℕ → Type 0
LeadsBack visits from [] to = from ≡ to
LeadsBack visits from (a ∷ path) to =
    (next : ℕ) × (0 < next) × (next < length visits) × (arc_to visits next ≡ a) × (from_at visits next ≡ from)
    × LeadsBack visits next path to

-- the later visits begin with the earlier ones
pub record Extends (old new : List Visit) : Type 0 where
  pub more : List Visit
  pub is : new ≡ old ++ more

-- each open arc from the node of this visit leads to a node that was visited
abbrev pub IsExplored : List Arc → ℕ → List Visit → ℕ → Type 0
IsExplored arcs least visits place =
    (a : ℕ) → IsOpen arcs least a → tail_of arcs a ≡ node_at visits place → IsVisited visits (head_of arcs a)

-- and so from each node that was visited
abbrev pub IsClosed : List Arc → ℕ → List Visit → Type 0
IsClosed arcs least visits = (place : ℕ) → place < length visits → IsExplored arcs least visits place
