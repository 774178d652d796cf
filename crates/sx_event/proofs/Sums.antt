-- Sums over views, and facts of each, where some views change.
use Rattle.std.proofs.Common.{◌≡◌, ◌≢◌, ℕ, ◌+◌, ◌<◌, ◌≤◌, true, List, [], ◌∷◌, ◌++◌, length, get_or, set, All, sum_by}
use Rattle.std.proofs.Common.{sym, ap, inl, inr, arith, length-set, get_or-set_other, get_or-set_same, ◌∙◌}
use Rattle.std.proofs.lemmas.Bool.{cases_lt, false≢true, cases_eq}
use Rattle.std.proofs.lemmas.List.{get_or_past, get_or_default}
use Rattle.std.proofs.lemmas.List.Sums.{sum_by-set, sum_by_push, sum_by-le, get_or-le-sum_by}
use Rattle.sx_event.specs.View.{View, spent}

-- a live view is one of the list
pub live_is_within : (views : List View) (k : ℕ) → (get_or views k spent).live ≡ true → k < length views
live_is_within views k live =
    elim (cases_lt k (length views)) [
      | inl lt ↦ lt
      | inr past ↦ absurd (false≢true (ap (λ (v : View). v.live) (sym (get_or_past views k spent past)) ∙ live))
    ]

-- a sum where one view changes, and what it counts does not
pub sum_kept : (f : View → ℕ) (views : List View) (k : ℕ) (v : View) → k < length views → f v ≡ f (get_or views k spent)
    → sum_by f (set views k v) ≡ sum_by f views
sum_kept f views k v lt same = omega (arith, sum_by-set f views k v spent lt)

-- a sum where one view changes, and counts more
pub sum_raised : (f : View → ℕ) (views : List View) (k : ℕ) (v : View) (more : ℕ) → k < length views →
    f v ≡ f (get_or views k spent) + more
    → sum_by f (set views k v) ≡ sum_by f views + more
sum_raised f views k v more lt same = omega (arith, sum_by-set f views k v spent lt)

-- a sum where a view is cut in two
pub sum_split : (f : View → ℕ) (views : List View) (k : ℕ) (left right : View) → k < length views
    → f left + f right ≡ f (get_or views k spent) → sum_by f (set views k left ++ right ∷ []) ≡ sum_by f views
sum_split f views k left right lt same =
    omega (arith, sum_by-set f views k left spent lt, sum_by_push f (set views k left) right)

-- a sum where one view takes in another
pub sum_joined : (f : View → ℕ) (views : List View) (k other : ℕ) (both : View) → k < length views →
    other < length views → other ≢ k
    → f spent ≡ 0 → f both ≡ f (get_or views k spent) + f (get_or views other spent)
    → sum_by f (set (set views k both) other spent) ≡ sum_by f views
sum_joined f views k other both lt within apart none same =
    let there : get_or (set views k both) other spent ≡ get_or views other spent =
    get_or-set_other views k other both spent apart in
    let here : other < length (set views k both) = omega (arith, length-set views k both) in
    let count : f (get_or (set views k both) other spent) ≡ f (get_or views other spent) = ap f there in
    omega (arith, sum_by-set f views k both spent lt, sum_by-set f (set views k both) other spent spent here)

-- two views count at most what all do
pub two_at_most : (f : View → ℕ) (views : List View) (k other : ℕ) → k < length views → other < length views → other ≢ k
    → f (get_or views k spent) + f (get_or views other spent) ≤ sum_by f views + f spent
two_at_most f views k other lt within apart =
    let there : get_or (set views k spent) other spent ≡ get_or views other spent =
    get_or-set_other views k other spent spent apart in
    let here : other < length (set views k spent) = omega (arith, length-set views k spent) in
    let count : f (get_or (set views k spent) other spent) ≡ f (get_or views other spent) = ap f there in
    omega (arith, sum_by-set f views k spent spent lt, get_or-le-sum_by f (set views k spent) other spent here)

-- where only one view counts, the sum is what it counts
pub sum_alone : (f : View → ℕ) (views : List View) (k : ℕ) → k < length views → f spent ≡ 0
    → ((j : ℕ) → j ≢ k → f (get_or views j spent) ≡ 0) → sum_by f views ≡ f (get_or views k spent)
sum_alone f views k lt none others =
    let zeros : All (λ v. f v ≤ 0) (set views k spent) = λ j d here. elim (cases_eq j k) [
      | inl same ↦ let at : get_or (set views k spent) j d ≡ spent = rw same (get_or-set_same views k spent d lt) in
          rw at (omega (arith, none))
      | inr apart ↦
          let in' : j < length views = omega (arith, length-set views k spent) in
          let at : get_or (set views k spent) j d ≡ get_or views j spent =
          get_or-set_other views k j spent d apart ∙ get_or_default views j d spent in' in
          let none' : f (get_or views j spent) ≡ 0 = others j apart in
          rw at (omega arith)
    ] in
    omega (arith, sum_by-set f views k spent spent lt, sum_by-le f 0 (set views k spent) zeros)
