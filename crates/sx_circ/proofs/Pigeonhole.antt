-- Different numbers below n are at most n.
use Rattle.std.proofs.Common.{◌≡◌, ◌≢◌, ℕ, ◌<◌, ◌≤◌, List, length, take, get_or, eqb, arith}
use Rattle.std.proofs.lemmas.Bool.{eqb-true, ne_eqb}
use Rattle.std.proofs.lemmas.List.{get_or-take, get_or_default, length-take}
use Rattle.std.proofs.lemmas.List.Elements.{at_from_Contains}
use Rattle.std.proofs.lemmas.Map.Keys.{IsDistinct-from_apart}
use Rattle.std.proofs.lemmas.Map.Steps.{length-le_from_distinct_below}
use Rattle.std.proofs.lemmas.Map.Views.{Contains-from_any}

-- so are the first m numbers of a list
pub few_distinct : (xs : List ℕ) (m n : ℕ) → m ≤ length xs → ((k : ℕ) → k < m → get_or xs k 0 < n)
    → ((i j : ℕ) → i < j → j < m → get_or xs i 0 ≢ get_or xs j 0)
    → m ≤ n
few_distinct xs m n within below apart =
    let count : length (take m xs) ≡ m = omega (arith, length-take m xs) in
    let distinct = IsDistinct-from_apart eqb (take m xs) (λ i j d before lt.
    let j_lt : j < m = omega arith in
    let i_lt : i < m = omega arith in
    let j_in : j < length xs = omega arith in
    let i_in : i < length xs = omega arith in
    rw (
      get_or-take m xs i d i_lt,
      get_or-take m xs j d j_lt,
      get_or_default xs i d 0 i_in,
      get_or_default xs j d 0 j_in,
    )
    (ne_eqb (get_or xs i 0) (get_or xs j 0) (apart i j before j_lt))) in
    let bound = length-le_from_distinct_below (take m xs) n distinct (λ q any.
    let at = at_from_Contains (take m xs) q (Contains-from_any eqb-true q (take m xs) any) in
    let k : ℕ = at.0 in
    let k_lt : k < m = omega (arith, at.1) in
    let here : get_or (take m xs) k 0 ≡ q = at.2 0 in
    let taken : get_or (take m xs) k 0 ≡ get_or xs k 0 = get_or-take m xs k 0 k_lt in
    omega (arith, below k k_lt)) in
    omega arith
