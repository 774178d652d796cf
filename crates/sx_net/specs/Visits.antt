-- The nodes that a search visited, in their order. No public clause cites this module.
use Rattle.std.specs.Prelude.{◌≡◌, ℕ, ◌+◌, ◌<◌, ◌≤◌, ◌^◌, List, length, Option, Some, slice_get, slice_index_or}
use Rattle.std.specs.Prelude.{count_by, is_none}
use Rattle.sx_net.specs.declared.tree.Visit.{Visit}

-- the number of nodes, and the visits
pub record Visits : Type 0 where
  pub nodes : ℕ
  pub visits : List Visit

abbrev pub no_visit : Visit
no_visit = record { node = 0; arc = 0; from = 0 }

abbrev pub visit_at : List Visit → ℕ → Visit
visit_at visits place = slice_index_or visits place no_visit

-- the node of a visit, the arc by which it was reached, and the place of the node that the arc leaves
abbrev pub node_at : List Visit → ℕ → ℕ
node_at visits place = (visit_at visits place).node

abbrev pub arc_to : List Visit → ℕ → ℕ
arc_to visits place = (visit_at visits place).arc

abbrev pub from_at : List Visit → ℕ → ℕ
from_at visits place = (visit_at visits place).from

-- the node was visited
pub record IsVisited (visits : List Visit) (node : ℕ) : Type 0 where
  pub place : ℕ
  pub within : place < length visits
  pub is : node_at visits place ≡ node

-- no node was visited twice
abbrev pub AreApart : List Visit → Type 0
AreApart visits =
    (p q : ℕ) → p < length visits → q < length visits → node_at visits p ≡ node_at visits q → p ≡ q

-- each node keeps its place among the visits, and there is room for the nodes that have none
pub record IsIndexed (visits : List Visit) (places : List (Option ℕ)) (capacity : ℕ) : Type 0 where
  pub forth : (p : ℕ) → p < length visits → slice_get places (node_at visits p) ≡ Some (Some p)
  pub back : (v p : ℕ) → slice_get places v ≡ Some (Some p) → (p < length visits) × (node_at visits p ≡ v)
  pub others : count_by is_none places + length visits ≡ length places
  pub room : length places ≤ capacity
  pub few : length places < 2 ^ 32
