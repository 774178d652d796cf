-- What a contract sees of `Net`.
use Rattle.std.specs.Prelude.{◌≡◌, ◌≢◌, ℕ, ◌+◌, ◌<◌, Bool, true, List, [], ◌∷◌, ◌++◌, length, slice_set, All, sum_by}
use Rattle.std.specs.Prelude.{◌==◌, if◌then◌else◌}
use Rattle.sx_net.specs.declared.arc.Arc.{Arc}
use Rattle.sx_net.specs.Arcs.{arc_at, tail_of, head_of, left_of, is_allowed, reverse_of, room_of}

-- the number of nodes, the arcs, how many more arcs with their reverses there is room for, the path that
-- is kept (no arcs where none is), and the nodes that the last search reached
pub record Network : Type 0 where
  pub nodes : ℕ
  pub arcs : List Arc
  pub spare : ℕ
  pub path : List ℕ
  pub reached : List ℕ

-- an arc with its reverse comes to the arcs
abbrev pub with_arc : List Arc → ℕ → ℕ → ℕ → List Arc
with_arc arcs tail head room =
    arcs ++ record { tail = tail; head = head; left = room; allowed = true }
    ∷ record { tail = head; head = tail; left = 0; allowed = true } ∷ []

-- an arc is allowed or forbidden
abbrev pub with_allowed : List Arc → ℕ → Bool → List Arc
with_allowed arcs a on = slice_set arcs a (record (arc_at arcs a) { allowed = on })

-- what the arcs that leave a node have left together
abbrev pub left_from : List Arc → ℕ → ℕ
left_from arcs node = sum_by (λ arc. if arc.tail == node then arc.left else 0) arcs

-- an amount at one node, and nothing at each other node
abbrev pub only_at : ℕ → ℕ → ℕ → ℕ
only_at there amount node = if there == node then amount else 0

-- what can still leave the nodes after a push from tail to head: that much less at the tail and more at the head
pub record MovesRoom (old new : List Arc) (tail head amount : ℕ) : Type 0 where
  pub at : (node : ℕ) →
      left_from new node + only_at tail amount node ≡ left_from old node + only_at head amount node

-- the amount is pushed along the path: its arcs have that much less left, and their reverses that much more
pub record Pushes (old new : List Arc) (path : List ℕ) (amount : ℕ) : Type 0 where
  pub count : length new ≡ length old
  pub tails : (a : ℕ) → tail_of new a ≡ tail_of old a
  pub heads : (a : ℕ) → head_of new a ≡ head_of old a
  pub allowed : (a : ℕ) → is_allowed new a ≡ is_allowed old a
  pub lowered : All (λ a. left_of new a + amount ≡ left_of old a) path
  pub raised : All (λ a. left_of new (reverse_of a) ≡ left_of old (reverse_of a) + amount) path
  pub others : (a : ℕ) → All (λ b. (b ≢ a) × (reverse_of b ≢ a)) path → left_of new a ≡ left_of old a
  pub rooms : (a : ℕ) → a < length old → room_of new a ≡ room_of old a
