-- Laws of the nodes that open arcs lead to, for all arcs.
use Rattle.std.specs.Prelude.{◌≡◌, ℕ, Bool, true, false, List}
use Rattle.sx_net.specs.declared.arc.Arc.{Arc}
use Rattle.sx_net.specs.Arcs.{tail_of, head_of, IsOpen}
use Rattle.sx_net.specs.Paths.{Reaches}

-- no open arc leaves the nodes that open arcs lead to
abbrev pub NoneLeaves : Type 0
NoneLeaves =
    (arcs : List Arc) (least tail a : ℕ) → IsOpen arcs least a → Reaches arcs least tail (tail_of arcs a) →
    Reaches arcs least tail (head_of arcs a)

-- where a set has the tail and not the head, and no open arc leaves it, no open arcs lead from tail to head
abbrev pub CutRefutes : Type 0
CutRefutes =
    (arcs : List Arc) (least tail head : ℕ) (is_in : ℕ → Bool) → is_in tail ≡ true → is_in head ≡ false →
    ((a : ℕ) → IsOpen arcs least a → is_in (tail_of arcs a) ≡ true → is_in (head_of arcs a) ≡ true) →
    ¬ Reaches arcs least tail head
