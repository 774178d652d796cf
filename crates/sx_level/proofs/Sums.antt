-- Sums over the arcs of a net, where the arcs 2k and 2k + 1 are each other's reverse, and bounds of sums.
use Rattle.std.proofs.Common.{◌≡◌, ◌≢◌, ℕ, zero, suc, ◌+◌, ◌*◌, ◌<◌, ◌≤◌, List, length, take}
use Rattle.std.proofs.Common.{refl, sym, ap, ◌∙◌, inl, inr, arith}
use Rattle.std.specs.Prelude.{sum_by}
use Rattle.std.proofs.lemmas.Bool.{cases_eq}
use Rattle.std.proofs.lemmas.List.Sums.{sum_by_more}
use Rattle.sx_dual.specs.Sums.{sum_below}
use Rattle.sx_dual.proofs.SumLaws.{sum_below-none, sum_below-more, sum_below-le}
use Rattle.sx_net.specs.declared.arc.Arc.{Arc}
use Rattle.sx_net.specs.Arcs.{no_arc, arc_at}

-- the terms of two arcs at a time
pub sum_of_pairs : (g : Arc → ℕ) (arcs : List Arc) (m : ℕ) → 2 * m ≤ length arcs →
    sum_by g (take (2 * m) arcs) ≡ sum_below m (λ k. g (arc_at arcs (2 * k)) + g (arc_at arcs (2 * k + 1)))
sum_of_pairs g arcs zero le = sym (sum_below-none (λ k. g (arc_at arcs (2 * k)) + g (arc_at arcs (2 * k + 1))))
sum_of_pairs g arcs (suc m) le =
    let many : 2 * suc m ≡ (2 * m + 1) + 1 = omega arith in
    let first = sum_by_more g arcs (2 * m) no_arc (omega arith) in
    let second = sum_by_more g arcs (2 * m + 1) no_arc (omega arith) in
    let next : suc m ≡ m + 1 = omega arith in
    let so_far = sum_of_pairs g arcs m (omega arith) in
    let more = sum_below-more m (λ k. g (arc_at arcs (2 * k)) + g (arc_at arcs (2 * k + 1))) in
    ap (λ n. sum_by g (take n arcs)) many
    ∙ (let is : sum_by g (take ((2 * m + 1) + 1) arcs)
    ≡ sum_below (m + 1) (λ k. g (arc_at arcs (2 * k)) + g (arc_at arcs (2 * k + 1))) =
    omega (arith, first, second, so_far, more) in is)
    ∙ sym (ap (λ n. sum_below n (λ k. g (arc_at arcs (2 * k)) + g (arc_at arcs (2 * k + 1)))) next)

pub sum_below-split : (x n : ℕ) (f : ℕ → ℕ) → sum_below (x + n) f ≡ sum_below x f + sum_below n (λ b. f (x + b))
sum_below-split x zero f =
    let none = sum_below-none (λ b. f (x + b)) in
    let same : x + 0 ≡ x = omega arith in
    ap (λ m. sum_below m f) same
    ∙ (let is : sum_below x f ≡ sum_below x f + sum_below 0 (λ b. f (x + b)) = omega (arith, none) in is)
sum_below-split x (suc n) f =
    let left : x + suc n ≡ (x + n) + 1 = omega arith in
    let right : suc n ≡ n + 1 = omega arith in
    ap (λ m. sum_below m f) left
    ∙ (let is : sum_below ((x + n) + 1) f ≡ sum_below x f + sum_below (n + 1) (λ b. f (x + b)) =
    omega (
      arith,
      sum_below-split x n f,
      sum_below-more (x + n) f,
      sum_below-more n (λ b. f (x + b)),
    ) in is)
    ∙ sym (ap (λ m. sum_below x f + sum_below m (λ b. f (x + b))) right)

-- row by row
pub sum_of_rows : (a n : ℕ) (f : ℕ → ℕ) → sum_below (a * n) f ≡ sum_below a (λ s. sum_below n (λ b. f (s * n + b)))
sum_of_rows zero n f =
    let none : zero * n ≡ 0 = omega arith in
    ap (λ m. sum_below m f) none ∙ sum_below-none f
    ∙ sym (sum_below-none (λ s. sum_below n (λ b. f (s * n + b))))
sum_of_rows (suc a) n f =
    let left : suc a * n ≡ a * n + n = omega arith in
    let right : suc a ≡ a + 1 = omega arith in
    ap (λ m. sum_below m f) left
    ∙ (let is : sum_below (a * n + n) f ≡ sum_below (a + 1) (λ s. sum_below n (λ b. f (s * n + b))) =
    omega (
      arith,
      sum_of_rows a n f,
      sum_below-split (a * n) n f,
      sum_below-more a (λ s. sum_below n (λ b. f (s * n + b))),
    ) in is)
    ∙ sym (ap (λ m. sum_below m (λ s. sum_below n (λ b. f (s * n + b)))) right)

pub sum_of_none : (n : ℕ) (f : ℕ → ℕ) → ((k : ℕ) → k < n → f k ≡ 0) → sum_below n f ≡ 0
unfolding sum_below
sum_of_none zero f none = refl
sum_of_none (suc n) f none =
    omega (arith, sum_of_none n f (λ k lt. none k (omega arith)), none n (omega arith))

-- one term alone, where the others are 0
pub sum_at_one : (n v : ℕ) (f : ℕ → ℕ) → v < n → ((k : ℕ) → k ≢ v → f k ≡ 0) → sum_below n f ≡ f v
sum_at_one zero v f lt others = absurd (omega arith)
sum_at_one (suc n) v f lt others =
    let next : suc n ≡ n + 1 = omega arith in
    let more = sum_below-more n f in
    elim (cases_eq v n) [
      | inl same ↦
          let before = sum_of_none n f (λ k k_lt. others k (λ is. absurd (omega arith))) in
          ap (λ m. sum_below m f) next
          ∙ (let is : sum_below (n + 1) f ≡ f n = omega (arith, more, before) in is)
          ∙ sym (ap f same)
      | inr other ↦
          let rest = sum_at_one n v f (omega arith) others in
          let last = others n (λ is. other (sym is)) in
          ap (λ m. sum_below m f) next
          ∙ (let is : sum_below (n + 1) f ≡ f v = omega (arith, more, rest, last) in is)
    ]

-- terms of at most m
pub sum_le : (n m : ℕ) (f : ℕ → ℕ) → ((k : ℕ) → k < n → f k ≤ m) → sum_below n f ≤ n * m
unfolding sum_below
sum_le zero m f le = omega arith
sum_le (suc n) m f le =
    omega (arith, sum_le n m f (λ k lt. le k (omega arith)), le n (omega arith))

-- a term is at most the sum
pub term_le : (n v : ℕ) (f : ℕ → ℕ) → v < n → f v ≤ sum_below n f
unfolding sum_below
term_le zero v f lt = absurd (omega arith)
term_le (suc n) v f lt =
    elim (cases_eq v n) [
      | inl same ↦ let is : f v ≡ f n = ap f same in omega arith
      | inr other ↦ omega (arith, term_le n v f (omega arith))
    ]

-- where no term is more and one is less, the sum is less
pub sum_below-lt : (n : ℕ) (f g : ℕ → ℕ) → ((k : ℕ) → k < n → f k ≤ g k) → (v : ℕ) → v < n → f v < g v →
    sum_below n f < sum_below n g
unfolding sum_below
sum_below-lt zero f g le v lt less = absurd (omega arith)
sum_below-lt (suc n) f g le v lt less =
    elim (cases_eq v n) [
      | inl same ↦
          let last : f n < g n = rw same at less in
          omega (arith, sum_below-le n f g (λ k k_lt. le k (omega arith)))
      | inr other ↦ omega (
        arith,
        sum_below-lt n f g (λ k k_lt. le k (omega arith)) v (omega arith) less,
        le n (omega arith),
      )
    ]

-- where the sum is not 0, some term is not
pub some_term : (n : ℕ) (f : ℕ → ℕ) → 0 < sum_below n f → (v : ℕ) × (v < n) × (0 < f v)
unfolding sum_below
some_term zero f some = absurd (omega arith)
some_term (suc n) f some =
    elim (cases_eq (f n) 0) [
      | inl none ↦
          let before = some_term n f (omega (arith, none)) in
          (before.0, omega (arith, before.1), before.2)
      | inr here ↦ (n, omega arith, omega arith)
    ]
