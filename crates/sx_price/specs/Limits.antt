-- When an offer trades at a batch rate. Prices and limits are in units of 2^-24, and μ is 2^-j.
use Rattle.std.specs.Prelude.{ℕ, ◌*◌, ◌-◌, ◌^◌, ◌<◌, ◌≤◌, Bool, nat_le}

-- ---- the ranges of the numbers

abbrev pub least_price : ℕ
least_price = 2 ^ 8

abbrev pub most_price : ℕ
most_price = 2 ^ 40

abbrev pub IsPrice : ℕ → Type 0
IsPrice price = (least_price ≤ price) × (price ≤ most_price)

abbrev pub IsLimit : ℕ → Type 0
IsLimit limit = (1 ≤ limit) × (limit < 2 ^ 56)

-- the exponent of μ
abbrev pub IsExponent : ℕ → Type 0
IsExponent j = (1 ≤ j) × (j ≤ 20)

-- ---- the two rules

-- the limit is at most sell / buy
abbrev pub MayTrade : ℕ → ℕ → ℕ → Type 0
MayTrade sell buy limit = limit * buy ≤ sell * 2 ^ 24

-- the limit is at most (1 - μ) * sell / buy
abbrev pub MustTrade : ℕ → ℕ → ℕ → ℕ → Type 0
MustTrade sell buy limit j = limit * buy * 2 ^ j ≤ sell * 2 ^ 24 * (2 ^ j - 1)

-- ---- the two rules, decided

-- an offer of this limit may trade
abbrev pub may_trade : ℕ → ℕ → ℕ → Bool
may_trade sell buy limit = nat_le (limit * buy) (sell * 2 ^ 24)

-- an offer of this limit must trade
abbrev pub must_trade : ℕ → ℕ → ℕ → ℕ → Bool
must_trade sell buy limit j = nat_le (limit * buy * 2 ^ j) (sell * 2 ^ 24 * (2 ^ j - 1))
