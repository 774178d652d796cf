-- Sums over assets, and over ordered pairs of different assets. Assets are the numbers below n.
use Rattle.std.specs.Prelude.{ℕ, zero, suc, ◌+◌, ◌≢◌, ◌<◌, ◌==◌, if◌then◌else◌}

-- f 0 + f 1 + .. + f (n - 1)
unfoldable pub sum_below : ℕ → (ℕ → ℕ) → ℕ
sum_below zero f = 0
sum_below (suc n) f = sum_below n f + f n

-- what a pair has, and nothing where both assets are the same
abbrev pub between : (ℕ → ℕ → ℕ) → ℕ → ℕ → ℕ
between f sell buy = if sell == buy then 0 else f sell buy

-- the sum over all pairs
abbrev pub pair_sum : ℕ → (ℕ → ℕ → ℕ) → ℕ
pair_sum n f = sum_below n (λ sell. sum_below n (λ buy. between f sell buy))

-- the fact holds of each pair
abbrev pub EachPair : ℕ → (ℕ → ℕ → Type 0) → Type 0
EachPair n P = (sell buy : ℕ) → sell < n → buy < n → sell ≢ buy → P sell buy
