-- The arcs that leave each node, as lists. No public clause cites this module.
use Rattle.std.specs.Prelude.{◌≡◌, ◌≢◌, ℕ, ◌+◌, ◌*◌, ◌^◌, ◌<◌, ◌==◌, ◌&&◌, nat_lt, not, Bool, if◌then◌else◌, List, length}
use Rattle.std.specs.Prelude.{Some, slice_get, slice_index}
use Rattle.sx_links.specs.Lists.{list_at, AreDisjoint}
use Rattle.sx_net.specs.declared.arc.Arc.{Arc}
use Rattle.sx_net.specs.Arcs.{arc_at, tail_of}

-- a search for more than nothing may use the arc: it is allowed, has something left and leads to another node
abbrev pub can_carry : Arc → Bool
can_carry arc = arc.allowed && nat_lt 0 arc.left && not (arc.tail == arc.head)

-- the list of an arc. Each node has one of the arcs that leave it and can carry, and one of the others.
abbrev pub list_of : Arc → ℕ
list_of arc = if can_carry arc then 2 * arc.tail else 2 * arc.tail + 1

-- the arc stands in this list, at this link
pub record IsListed (lists : List (List (ℕ × ℕ))) (list link a : ℕ) : Type 0 where
  pub place : ℕ
  pub here : slice_get (list_at lists list) place ≡ Some (link, a)

-- what stands in this list, at this link, is an arc of the list, whose link is kept, and not this one
pub record IsEntry (links : List ℕ) (arcs : List Arc) (but list link a : ℕ) : Type 0 where
  pub within : a < length arcs
  pub other : a ≢ but
  pub in_list : list_of (arc_at arcs a) ≡ list
  pub at_link : slice_index links a ≡ link

-- each arc but one stands in its list, and each list has nothing else
pub record AreListed (lists : List (List (ℕ × ℕ))) (links : List ℕ) (arcs : List Arc) (but : ℕ) : Type 0 where
  pub count : length links ≡ length arcs
  pub few : length lists < 2 ^ 32
  pub tails : (a : ℕ) → a < length arcs → 2 * tail_of arcs a + 1 < length lists
  pub apart : AreDisjoint lists
  pub entries : (list place link a : ℕ) → slice_get (list_at lists list) place ≡ Some (link, a) →
      IsEntry links arcs but list link a
  pub all : (a : ℕ) → a < length arcs → a ≢ but → IsListed lists (list_of (arc_at arcs a)) (slice_index links a) a
