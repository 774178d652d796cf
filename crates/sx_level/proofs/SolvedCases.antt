-- How many searches there are at most, and which upper bounds have how many digits, worked out by hand.
use Rattle.std.proofs.Common.{◌≡◌, ℕ, ◌*◌, ◌^◌, ◌<◌, refl, arith}
use Rattle.sx_level.specs.Solved.{HaveDigits, arc_count, most_searches}

-- one asset has an arc from the source and one to the sink, each with its reverse
one_asset : arc_count 1 ≡ 4
one_asset = refl

-- two assets have two pairs besides
two_assets : arc_count 2 ≡ 12
two_assets = refl

-- 2 * 1 * 9, where the upper bound is 0
nothing_to_trade : most_searches 1 0 ≡ 18
nothing_to_trade = refl

-- 3 * 4 * 25
three_digits : most_searches 2 3 ≡ 300
three_digits = refl

-- 33 * 104 * 4225, for the most assets and the greatest upper bound, 2 ^ 102
most_assets : most_searches 32 103 ≡ 14500200
most_assets = refl

-- ---- digits

-- upper bounds of 0 and 3 have at most two digits, and those of a third asset would have more
up_to_three : HaveDigits 2 (λ sell buy. 3 * buy) 2
up_to_three s b s_lt b_lt other = omega (arith, b_lt)

-- one of 4 has more than two
not_four : HaveDigits 2 (λ sell buy. 4) 2 → ⊥
not_four is =
    let less : 4 < 2 ^ 2 = is 0 1 (omega arith) (omega arith) (λ same. omega (arith, same)) in omega (arith, less)
