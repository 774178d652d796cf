-- The steps of a sum.
use Rattle.std.proofs.Common.{◌≡◌, ℕ, ◌+◌, sym, ◌∙◌, arith}
use Rattle.sx_dual.specs.Sums.{between, sum_below}
use Rattle.sx_dual.proofs.SumLaws.{between-all, sum_below-more, sum_below-none}

pub sum_none : (f : ℕ → ℕ) → 0 ≡ sum_below 0 f
sum_none f = sym (sum_below-none f)

pub sum_more : (n : ℕ) (f : ℕ → ℕ) (sum value : ℕ) → sum ≡ sum_below n f → value ≡ f n →
    sum + value ≡ sum_below (n + 1) f
sum_more n f sum value so_far here = omega (arith, sum_below-more n f)

-- an entry that was read, which is 0 where both assets are the same
pub between_read : (f : ℕ → ℕ → ℕ) (sell buy value : ℕ) → value ≡ f sell buy → (sell ≡ buy → value ≡ 0) →
    value ≡ between f sell buy
between_read f sell buy value is itself = is ∙ sym (between-all f sell buy (λ same. sym is ∙ itself same))
