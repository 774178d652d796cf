-- How many searches are made at most.
use Rattle.std.proofs.Common.{◌≡◌, ℕ, ◌+◌, ◌*◌, ◌<◌, ◌≤◌, refl, subst, arith}
use Rattle.sx_fill.specs.Bounds.{HasBounds}
use Rattle.sx_dual.specs.Tables.{BoundsTable, high_of}
use Rattle.sx_level.specs.Solved.{HaveDigits, most_searches}
use Rattle.sx_clear.specs.TradeSearches.{most_clearing_searches}

-- ---- circulations

-- tables of the same bounds have the same digits
same_digits : (n : ℕ) (low high : ℕ → ℕ → ℕ) (bounds : BoundsTable) (b : ℕ) → HasBounds n low high bounds
    → HaveDigits n high b → HaveDigits bounds.assets (high_of bounds) b
same_digits n low high bounds b has digits s t s_lt t_lt differ =
    let s_in : s < n = omega (arith, s_lt, has.same_assets) in
    let t_in : t < n = omega (arith, t_lt, has.same_assets) in
    omega (arith, has.is_high s t s_in t_in differ, digits s t s_in t_in differ)

-- what is counted by the table of some bounds is counted by the bounds
pub asked : (n : ℕ) (low high : ℕ → ℕ → ℕ) (bounds : BoundsTable) (b old new : ℕ) → HasBounds n low high bounds
    → HaveDigits n high b
    → (HaveDigits bounds.assets (high_of bounds) b → new ≤ old + most_searches bounds.assets b)
    → new ≤ old + most_searches n b
asked n low high bounds b old new has digits counted =
    subst (λ (m : ℕ). new ≤ old + most_searches m b) has.same_assets
    (counted (same_digits n low high bounds b has digits))

pub asked_once : (most old new : ℕ) → new ≤ old + most → new ≤ old + 2 * most
asked_once most old new first = omega arith

pub asked_twice : (most old middle new : ℕ) → middle ≤ old + most → new ≤ middle + most → new ≤ old + 2 * most
asked_twice most old middle new first second = omega arith

-- the constant is twice the most of one circulation
is_twice : most_clearing_searches ≡ 2 * most_searches 32 103
is_twice = refl
