-- Arcs of a residual network. The arcs 2k and 2k + 1 are each other's reverse.
use Rattle.std.specs.Prelude.{ℕ, ◌+◌, ◌-◌, ◌%◌, ◌<◌, ◌≤◌, ◌==◌, Bool, false, IsTrue, List, length}
use Rattle.std.specs.Prelude.{slice_index_or, if◌then◌else◌}
use Rattle.sx_net.specs.declared.arc.Arc.{Arc}

-- an arc that is not allowed
abbrev pub no_arc : Arc
no_arc = record { tail = 0; head = 0; left = 0; allowed = false }

-- the arc of a number
abbrev pub arc_at : List Arc → ℕ → Arc
arc_at arcs a = slice_index_or arcs a no_arc

-- the node that an arc leaves
abbrev pub tail_of : List Arc → ℕ → ℕ
tail_of arcs a = (arc_at arcs a).tail

-- the node that it leads to
abbrev pub head_of : List Arc → ℕ → ℕ
head_of arcs a = (arc_at arcs a).head

-- what it has left
abbrev pub left_of : List Arc → ℕ → ℕ
left_of arcs a = (arc_at arcs a).left

-- whether it is allowed
abbrev pub is_allowed : List Arc → ℕ → Bool
is_allowed arcs a = (arc_at arcs a).allowed

-- the number of an arc's reverse
abbrev pub reverse_of : ℕ → ℕ
reverse_of a = if a % 2 == 0 then a + 1 else a - 1

-- the room of an arc and its reverse, which is what they have left together
abbrev pub room_of : List Arc → ℕ → ℕ
room_of arcs a = left_of arcs a + left_of arcs (reverse_of a)

-- the arc is allowed and has at least this much left
pub record IsOpen (arcs : List Arc) (least a : ℕ) : Type 0 where
  pub within : a < length arcs
  pub allowed : IsTrue (is_allowed arcs a)
  pub enough : least ≤ left_of arcs a
