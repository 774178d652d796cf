-- A cut leaves no circulation: as much goes into a set as out of it.
use Rattle.std.proofs.Common.{◌≡◌, ℕ, ◌+◌, ◌*◌, ◌<◌, ◌≤◌, Bool, true, false, not, ◌&&◌, cond, refl, arith}
use Rattle.sx_dual.specs.Circulation.{HaveNoCirculation, IsBalanced}
use Rattle.sx_dual.specs.Cuts.{IsCut, goes_in, goes_out, is_in, sum_in, sum_out}
use Rattle.sx_dual.proofs.Duality.{weighed}
use Rattle.sx_dual.proofs.SumLaws.{pair_sum-add, pair_sum-le, pair_sum-same}

weight : Bool → ℕ
weight inside = cond inside 1 0

-- what a pair takes from inside and brings into the set
both_sides : (s b : Bool) (x : ℕ)
    → weight s * x + cond (not s && b) x 0 ≡ weight b * x + cond (s && not b) x 0
unfolding weight
both_sides true true x = refl
both_sides true false x = omega arith
both_sides false true x = omega arith
both_sides false false x = refl

pub in_is_out : (n set : ℕ) (y : ℕ → ℕ → ℕ) → ((asset : ℕ) → asset < n → IsBalanced n y asset) →
    sum_in n y set ≡ sum_out n y set
in_is_out n set y balanced =
    let w = λ (asset : ℕ). weight (is_in set asset) in
    let same = pair_sum-same n
    (λ s b. w s * y s b + cond (goes_in set s b) (y s b) 0) (λ s b. w b * y s b + cond (goes_out set s b) (y s b) 0)
    (λ s b s_lt b_lt different. both_sides (is_in set s) (is_in set b) (y s b)) in
    omega (
      arith,
      same,
      pair_sum-add n (λ s b. w s * y s b) (λ s b. cond (goes_in set s b) (y s b) 0),
      pair_sum-add n (λ s b. w b * y s b) (λ s b. cond (goes_out set s b) (y s b) 0),
      weighed n w y balanced,
    )

cond_le : (test : Bool) (x z : ℕ) → x ≤ z → cond test x 0 ≤ cond test z 0
cond_le true x z le = le
cond_le false x z le = omega arith

pub cut_refutes : (n : ℕ) (low high : ℕ → ℕ → ℕ) (set : ℕ) → IsCut n low high set → HaveNoCirculation n low high
cut_refutes n low high set cut y circulation =
    let least : sum_in n low set ≤ sum_in n y set =
    pair_sum-le n (λ s b. cond (goes_in set s b) (low s b) 0) (λ s b. cond (goes_in set s b) (y s b) 0)
    (λ s b s_lt b_lt different. let at = circulation.within s b s_lt b_lt different in
    cond_le (goes_in set s b) (low s b) (y s b) at.at_least) in
    let most : sum_out n y set ≤ sum_out n high set =
    pair_sum-le n (λ s b. cond (goes_out set s b) (y s b) 0) (λ s b. cond (goes_out set s b) (high s b) 0)
    (λ s b s_lt b_lt different. let at = circulation.within s b s_lt b_lt different in
    cond_le (goes_out set s b) (y s b) (high s b) at.at_most) in
    omega (arith, in_is_out n set y circulation.balanced)
