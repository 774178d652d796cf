-- Paths of arcs, and the nodes that open arcs lead to.
use Rattle.std.specs.Prelude.{◌≡◌, ◌≢◌, ℕ, ◌<◌, List, [], ◌∷◌, length, map, slice_index, All}
use Rattle.sx_net.specs.declared.arc.Arc.{Arc}
use Rattle.sx_net.specs.Arcs.{tail_of, head_of, IsOpen}

-- the arcs lead from one node to another, each from the node to which the one before it leads
abbrev pub Leads : List Arc → ℕ → List ℕ → ℕ → Type 0
Leads arcs tail [] head = tail ≡ head
Leads arcs tail (a ∷ path) head = (a < length arcs) × (tail_of arcs a ≡ tail) × Leads arcs (head_of arcs a) path head

-- the nodes on a path, from its first to its last
abbrev pub nodes_on : List Arc → ℕ → List ℕ → List ℕ
nodes_on arcs tail path = tail ∷ map (head_of arcs) path

-- no number stands at two places
abbrev pub AreDistinct : List ℕ → Type 0
AreDistinct xs = (i j : ℕ) → i < j → j < length xs → slice_index xs i ≢ slice_index xs j

-- a path from one node to another that comes to no node twice
pub record IsPath (arcs : List Arc) (tail : ℕ) (path : List ℕ) (head : ℕ) : Type 0 where
  pub leads : Leads arcs tail path head
  pub distinct : AreDistinct (nodes_on arcs tail path)

-- open arcs lead from one node to another
pub record Reaches (arcs : List Arc) (least tail head : ℕ) : Type 0 where
  pub path : List ℕ
  pub leads : Leads arcs tail path head
  pub passable : All (IsOpen arcs least) path
