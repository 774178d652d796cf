-- From one level to the next.
use Rattle.std.proofs.Common.{◌≡◌, ℕ, ◌+◌, ◌<◌, ◌≤◌, List}
use Rattle.std.proofs.Common.{sym, ◌∙◌, inl, inr, arith}
use Rattle.std.specs.Prelude.{slice_index}
use Rattle.std.proofs.lemmas.Bool.{cases_eq}
use Rattle.sx_dual.specs.Tables.{BoundsTable}
use Rattle.sx_net.specs.declared.arc.Arc.{Arc}
use Rattle.sx_level.specs.Levels.{IsLevel, IsHeld, AreHeld}
use Rattle.sx_level.specs.Shape.{surplus_of, total_surplus}
use Rattle.sx_level.proofs.Sums.{some_term, sum_le, term_le}

-- where the greatest surplus is not 0, some is left
pub some_left : (n most : ℕ) (arcs : List Arc) → 0 < most →
    ((m : ℕ) → ((a : ℕ) → a < n → surplus_of n arcs a ≤ m) → most ≤ m) → 0 < total_surplus n arcs
some_left n most arcs some least =
    let le = least (total_surplus n arcs) (λ a lt. term_le n a (λ v. surplus_of n arcs v) lt) in
    omega (arith, le)

-- and where it is 0, none is
pub none_left : (n most : ℕ) (arcs : List Arc) → most ≤ 0 → ((a : ℕ) → a < n → surplus_of n arcs a ≤ most) →
    total_surplus n arcs ≤ 0
none_left n most arcs none each =
    let all = sum_le n 0 (λ a. surplus_of n arcs a) (λ a lt. omega (arith, each a lt)) in
    omega (arith, all)

-- the assets with a surplus stand at the new level
pub held_next : (bounds : BoundsTable) (arcs : List Arc) (heights : List ℕ) (level most : ℕ) →
    IsLevel bounds arcs heights (level + 1) most → 0 < total_surplus bounds.assets arcs →
    ((at : ℕ) → at < level + 1 → IsHeld bounds.assets heights at) → AreHeld bounds.assets heights (level + 1)
held_next bounds arcs heights level most is some held at le =
    elim (cases_eq at (level + 1)) [
      | inl same ↦
          let top = some_term bounds.assets (λ a. surplus_of bounds.assets arcs a) some in
          record { asset = top.0; within = top.1; height = is.surplus top.0 top.1 top.2 ∙ sym same }
      | inr other ↦ held at (omega arith)
    ]

pub held_first : (n : ℕ) (heights : List ℕ) → 1 ≤ n → ((a : ℕ) → a < n → slice_index heights a ≡ 0) →
    AreHeld n heights 0
held_first n heights some flat at le =
    let none : at ≡ 0 = omega arith in
    record { asset = 0; within = omega arith; height = flat 0 (omega arith) ∙ sym none }
