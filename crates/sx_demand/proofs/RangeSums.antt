-- Sums over the numbers below n.
use Rattle.std.proofs.Common.{◌≡◌, ℕ, zero, suc, ◌+◌, ◌<◌, ◌*◌, ◌≤◌, ◌++◌, ◌∷◌, [], sum_by, map-id}
use Rattle.std.proofs.Common.{refl, sym, ap, subst, ◌∙◌, arith}
use Rattle.std.specs.List.{range_with_len}
use Rattle.std.proofs.lemmas.List.FromFn.{map-range_with_len_more}
use Rattle.std.proofs.lemmas.List.Sums.{sum_by_push}

pub range_more : (n : ℕ) → range_with_len 0 (n + 1) ≡ range_with_len 0 n ++ n ∷ []
range_more n =
    sym (map-id (range_with_len 0 (n + 1))) ∙ map-range_with_len_more (λ i. i) 0 n n (omega arith)
    ∙ ap (λ xs. xs ++ n ∷ []) (map-id (range_with_len 0 n))

pub sum_more : (f : ℕ → ℕ) (n : ℕ) → sum_by f (range_with_len 0 (n + 1)) ≡ sum_by f (range_with_len 0 n) + f n
sum_more f n = ap (sum_by f) (range_more n) ∙ sum_by_push f (range_with_len 0 n) n

-- two sums are the same where their terms are
pub sum_same : (f g : ℕ → ℕ) (n : ℕ) → ((k : ℕ) → k < n → f k ≡ g k)
    → sum_by f (range_with_len 0 n) ≡ sum_by g (range_with_len 0 n)
sum_same f g zero same = refl
sum_same f g (suc n) same =
    let rest : sum_by f (range_with_len 0 n) ≡ sum_by g (range_with_len 0 n) =
    sum_same f g n (λ k lt. same k (omega arith)) in
    let last : f n ≡ g n = same n (omega arith) in
    let next : n + 1 ≡ suc n = omega arith in
    let grown : sum_by f (range_with_len 0 (n + 1)) ≡ sum_by g (range_with_len 0 (n + 1)) =
    omega (arith, sum_more f n, sum_more g n) in
    subst (λ (m : ℕ). sum_by f (range_with_len 0 m) ≡ sum_by g (range_with_len 0 m)) next grown

-- a sum of terms that are at most a bound
pub sum_at_most : (f : ℕ → ℕ) (n bound : ℕ) → ((k : ℕ) → k < n → f k ≤ bound)
    → sum_by f (range_with_len 0 n) ≤ n * bound
sum_at_most f zero bound few = omega arith
sum_at_most f (suc n) bound few =
    let rest : sum_by f (range_with_len 0 n) ≤ n * bound = sum_at_most f n bound (λ k lt. few k (omega arith)) in
    let last : f n ≤ bound = few n (omega arith) in
    let next : n + 1 ≡ suc n = omega arith in
    let product : (n + 1) * bound ≡ n * bound + bound = omega arith in
    let grown : sum_by f (range_with_len 0 (n + 1)) ≤ (n + 1) * bound = omega (arith, sum_more f n) in
    subst (λ (m : ℕ). sum_by f (range_with_len 0 m) ≤ m * bound) next grown
