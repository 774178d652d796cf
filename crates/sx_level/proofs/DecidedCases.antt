-- Answers to two assets of which each may be sold for the other up to a value of 5, worked out by hand: those that do not
-- fit, and those that are not decided.
use Rattle.std.proofs.Common.{◌≡◌, ℕ, zero, suc, ◌^◌, ◌<◌, ◌≤◌, [], ◌∷◌, refl, arith}
use Rattle.std.proofs.lemmas.Int.{ints}
use Rattle.sx_dual.specs.Circulation.{IsBalanced, IsCirculation, IsWithin}
use Rattle.sx_dual.specs.Sums.{EachPair, sum_below}
use Rattle.sx_dual.specs.Tables.{BoundsTable, FlowTable, high_of, low_of}
use Rattle.sx_level.specs.declared.solving.Solved.TheVariants.{Best, Cut}
use Rattle.sx_level.specs.Solved.{IsDecided, IsSolved}

abbrev bounds : BoundsTable
bounds = record { assets = 2; low = 0 ∷ 0 ∷ 0 ∷ 0 ∷ []; high = 0 ∷ 5 ∷ 5 ∷ 0 ∷ [] }

-- nothing trades
abbrev idle : FlowTable
idle = record { assets = 2; values = 0 ∷ 0 ∷ 0 ∷ 0 ∷ [] }

-- each pair trades all that it may, which fits equal potentials
abbrev full : FlowTable
full = record { assets = 2; values = 0 ∷ 5 ∷ 5 ∷ 0 ∷ [] }

-- what must be sold for the first asset is more than it may be sold for
abbrev forced : BoundsTable
forced = record { assets = 2; low = 0 ∷ 0 ∷ 5 ∷ 0 ∷ []; high = 0 ∷ 4 ∷ 5 ∷ 0 ∷ [] }

-- as much is traded both ways as the second asset may be sold for
abbrev short : FlowTable
short = record { assets = 2; values = 0 ∷ 4 ∷ 4 ∷ 0 ∷ [] }

-- the first asset must be sold for at least 3, so that all that trades is above its lower bound and below its upper one
abbrev between_bounds : BoundsTable
between_bounds = record { assets = 2; low = 0 ∷ 3 ∷ 0 ∷ 0 ∷ []; high = 0 ∷ 9 ∷ 5 ∷ 0 ∷ [] }

-- ---- answers that do not fit

-- by the places of one asset, and of three, each pair trades 5 here too
not_of_one_asset : IsSolved bounds (Best (record { assets = 1; values = 0 ∷ 5 ∷ [] }) (0 ∷ 0 ∷ [])) → ⊥
not_of_one_asset is = let same = is.same_assets in omega (arith, same)

not_of_three_assets : IsSolved bounds (Best (record { assets = 3; values = 0 ∷ 5 ∷ 0 ∷ 5 ∷ [] }) (0 ∷ 0 ∷ [])) → ⊥
not_of_three_assets is = let same = is.same_assets in omega (arith, same)

not_one_potential : IsSolved bounds (Best full (0 ∷ [])) → ⊥
not_one_potential is = let count = is.one_potential in omega (arith, count)

not_three_potentials : IsSolved bounds (Best full (0 ∷ 0 ∷ 0 ∷ [])) → ⊥
not_three_potentials is = let count = is.one_potential in omega (arith, count)

-- with equal potentials each pair gains 1
not_idle : IsSolved bounds (Best idle (0 ∷ 0 ∷ [])) → ⊥
not_idle is =
    let tight = is.fits.tight 0 1 (omega arith) (omega arith) (λ same. omega (arith, same)) in
    let all : 0 ≡ 5 = tight.gaining (omega (arith, ints)) in omega (arith, all)

-- without lower bounds it would fit potentials of 1 and 0
not_below_a_bound : IsSolved forced (Best short (1 ∷ 0 ∷ [])) → ⊥
not_below_a_bound is =
    let in_bounds = is.fits.circulation.within 1 0 (omega arith) (omega arith) (λ same. omega (arith, same)) in
    let less : 5 ≤ 4 = in_bounds.at_least in omega (arith, less)

-- nothing must go into the first asset
not_cut : IsSolved bounds (Cut (record { 0 = 1 })) → ⊥
unfolding sum_below
not_cut is = let more : 5 < 0 = is.cut in omega (arith, more)

-- a sixth asset is none of theirs
not_beyond_the_assets : IsSolved forced (Cut (record { 0 = 33 })) → ⊥
not_beyond_the_assets is = let within : 33 < 2 ^ 2 = is.within in omega (arith, within)

-- ---- answers that decide nothing

-- each asset may be sold for the other at one value up to 5
within : (value : ℕ) → value ≤ 5 → EachPair 2 (IsWithin (low_of bounds) (high_of bounds) (λ sell buy. value))
within value most zero zero s b differ = absurd (differ refl)
within value most zero (suc zero) s b differ = record { at_least = omega arith; at_most = most }
within value most zero (suc (suc buy)) s b differ = absurd (omega arith)
within value most (suc zero) zero s b differ = record { at_least = omega arith; at_most = most }
within value most (suc zero) (suc zero) s b differ = absurd (differ refl)
within value most (suc zero) (suc (suc buy)) s b differ = absurd (omega arith)
within value most (suc (suc sell)) buy s b differ = absurd (omega arith)

within_between : EachPair 2 (IsWithin (low_of between_bounds) (high_of between_bounds) (λ sell buy. 4))
within_between zero zero s b differ = absurd (differ refl)
within_between zero (suc zero) s b differ = record { at_least = omega arith; at_most = omega arith }
within_between zero (suc (suc buy)) s b differ = absurd (omega arith)
within_between (suc zero) zero s b differ = record { at_least = omega arith; at_most = omega arith }
within_between (suc zero) (suc zero) s b differ = absurd (differ refl)
within_between (suc zero) (suc (suc buy)) s b differ = absurd (omega arith)
within_between (suc (suc sell)) buy s b differ = absurd (omega arith)

balanced : (value asset : ℕ) → asset < 2 → IsBalanced 2 (λ sell buy. value) asset
unfolding sum_below
balanced value zero lt = refl
balanced value (suc zero) lt = refl
balanced value (suc (suc asset)) lt = absurd (omega arith)

circulates : (value : ℕ) → value ≤ 5 → IsCirculation 2 (low_of bounds) (high_of bounds) (λ sell buy. value)
circulates value most = record { within = within value most; balanced = balanced value }

idle_is_not_greatest : IsDecided bounds (Best idle (0 ∷ 0 ∷ [])) → ⊥
unfolding sum_below
idle_is_not_greatest is =
    let less : 10 ≤ 0 = is.greatest (λ sell buy. 5) (circulates 5 (omega arith)) in omega (arith, less)

-- no circulation trades more, since it is none
too_much_is_none : IsDecided bounds (Best (record { assets = 2; values = 0 ∷ 9 ∷ 9 ∷ 0 ∷ [] }) (0 ∷ 0 ∷ [])) → ⊥
too_much_is_none is =
    let in_bounds = is.circulation.within 0 1 (omega arith) (omega arith) (λ same. omega (arith, same)) in
    let less : 9 ≤ 5 = in_bounds.at_most in omega (arith, less)

there_is_one : IsDecided bounds (Cut (record { 0 = 1 })) → ⊥
there_is_one none = none (λ sell buy. 0) (circulates 0 (omega arith))

-- without lower bounds it would be a greatest one
below_a_bound_is_none : IsDecided forced (Best short (1 ∷ 0 ∷ [])) → ⊥
below_a_bound_is_none is =
    let in_bounds = is.circulation.within 1 0 (omega arith) (omega arith) (λ same. omega (arith, same)) in
    let less : 5 ≤ 4 = in_bounds.at_least in omega (arith, less)

-- there is none of the lower bounds alone, and none of the upper ones alone
there_is_one_between : IsDecided between_bounds (Cut (record { 0 = 1 })) → ⊥
there_is_one_between none = none (λ sell buy. 4) (record { within = within_between; balanced = balanced 4 })
