-- What is true of each net. No public clause cites this module.
use Rattle.std.specs.Prelude.{◌≡◌, ◌≢◌, ℕ, ◌+◌, ◌*◌, ◌-◌, ◌%◌, ◌<◌, ◌≤◌, ◌^◌, List, length, slice_index, All}
use Rattle.sx_links.specs.Lists.{Lists}
use Rattle.sx_net.specs.declared.arc.Arc.{Arc}
use Rattle.sx_net.specs.Arcs.{tail_of, head_of, left_of, is_allowed, reverse_of, room_of}
use Rattle.sx_net.specs.Leaving.{AreListed}

-- the reverse of an arc is an arc between the same nodes, the other way
pub record HasReverse (arcs : List Arc) (a : ℕ) : Type 0 where
  pub within : reverse_of a < length arcs
  pub tail : tail_of arcs (reverse_of a) ≡ head_of arcs a
  pub head : head_of arcs (reverse_of a) ≡ tail_of arcs a

-- each arc is between two nodes and has a reverse, and its room is a number of the type
pub record AreSound (nodes : ℕ) (arcs : List Arc) : Type 0 where
  pub even : length arcs % 2 ≡ 0
  pub tails : (a : ℕ) → a < length arcs → tail_of arcs a < nodes
  pub heads : (a : ℕ) → a < length arcs → head_of arcs a < nodes
  pub reverses : (a : ℕ) → a < length arcs → HasReverse arcs a
  pub rooms : (a : ℕ) → a < length arcs → room_of arcs a < 2 ^ 128

-- no arc stands twice on the path, and none beside its reverse
pub record IsPushable (count : ℕ) (path : List ℕ) : Type 0 where
  pub within : All (λ a. a < count) path
  pub apart : (i j : ℕ) → i < j → j < length path → slice_index path i ≢ slice_index path j
  pub no_return : (i j : ℕ) → i < j → j < length path → slice_index path i ≢ reverse_of (slice_index path j)

-- all of it, where `link_room`, `room` and `path_room` are the capacities for links, for arcs and for the path
pub record IsSound (leaving : Lists ℕ) (links : List ℕ) (link_room nodes : ℕ) (arcs : List Arc) (room spare : ℕ)
    (path : List ℕ) (path_room : ℕ) : Type 0 where
  pub lists : length leaving.lists ≡ 2 * nodes
  pub listed : AreListed leaving.lists links arcs (length arcs)
  pub sound : AreSound nodes arcs
  pub pushable : IsPushable (length arcs) path
  pub free : leaving.spare ≡ 2 * spare
  pub fits : length arcs + 2 * spare ≤ room
  pub links_fit : length arcs + 2 * spare ≤ link_room
  pub few : length arcs + 2 * spare < 2 ^ 32 - 1
  pub path_fits : nodes ≤ path_room

-- the amount moves from what an arc has left to its reverse
pub record Shifts (old new : List Arc) (arc amount : ℕ) : Type 0 where
  pub count : length new ≡ length old
  pub tails : (a : ℕ) → tail_of new a ≡ tail_of old a
  pub heads : (a : ℕ) → head_of new a ≡ head_of old a
  pub allowed : (a : ℕ) → is_allowed new a ≡ is_allowed old a
  pub lowered : left_of new arc + amount ≡ left_of old arc
  pub raised : left_of new (reverse_of arc) ≡ left_of old (reverse_of arc) + amount
  pub others : (a : ℕ) → a ≢ arc → a ≢ reverse_of arc → left_of new a ≡ left_of old a
