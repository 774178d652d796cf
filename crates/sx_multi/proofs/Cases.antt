-- Which search is the best, computed at small cases that were worked out by hand.
use Rattle.std.proofs.Common.{◌≡◌, ℕ, ◌^◌, ◌<◌, ◌≤◌, List, [], ◌∷◌, refl, arith}
use Rattle.std.specs.Prelude.{slice_index}
use lib.Count.{count_leading_zeros}
use Rattle.sx_curve.specs.declared.quote.Quote.{Quote}
use Rattle.sx_curve.specs.Demand.{imbalance, sold_value, value_into, value_out}
use Rattle.sx_curve.specs.Search.{after_trial, held_after, trial_prices}
use Rattle.sx_multi.specs.Posted.{IsFirstLeast, end_of, first_least, off_of, posted}

-- ---- numbers alone

-- of equal ones the least number is taken, also where a later number has less than the first
equal_ones : (first_least (slice_index (70 ∷ 70 ∷ 70 ∷ [])) 3 ≡ 0)
    × (first_least (slice_index (90 ∷ 50 ∷ 70 ∷ 50 ∷ 40 ∷ [])) 4 ≡ 1)
unfolding first_least
equal_ones = (refl, refl)

-- only the numbers below count: the last of five is the least, and is not among four
last_is_least : first_least (slice_index (90 ∷ 50 ∷ 70 ∷ 50 ∷ 40 ∷ [])) 5 ≡ 4
unfolding first_least
last_is_least = refl

-- of 90, 50, 70 and 50 the number is 1: the last 50 is not the first, 90 is not the least, and of one number it is no
-- other
abbrev values : ℕ → ℕ
values = slice_index (90 ∷ 50 ∷ 70 ∷ 50 ∷ [])

not_the_last : IsFirstLeast values 4 3 → ⊥
not_the_last is = let less : 50 < 50 = is.first 1 (omega arith) in omega arith

not_the_first : IsFirstLeast values 4 0 → ⊥
not_the_first is = let less : 90 ≤ 50 = is.least 1 (omega arith) in omega arith

not_the_next : IsFirstLeast values 1 1 → ⊥
not_the_next is = let low : 1 < 1 = is.below in omega arith

-- ---- a market

abbrev ones : List ℕ
ones = 2 ^ 24 ∷ 2 ^ 24 ∷ []

abbrev quote : ℕ → ℕ → ℕ → ℕ → Quote
quote sell buy limit amount = record { sell = sell; buy = buy; limit = limit; amount = amount }

-- 100 of the first asset and 50 of the second, both at one half: in one round the exponent 1 leads nearer than the
-- usual 4
abbrev halves : List Quote
halves = quote 0 1 (2 ^ 23) 100 ∷ quote 1 0 (2 ^ 23) 50 ∷ []

halves_off : (off_of halves ones 10 1 0 ≡ 1572864100) × (off_of halves ones 10 1 1 ≡ 838861000)
unfolding sold_value value_into value_out imbalance count_leading_zeros trial_prices after_trial held_after
halves_off = (refl, refl)

halves_posted : (posted halves ones 10 1 1 ≡ 16427691 ∷ 17126741 ∷ [])
    × (posted halves ones 10 1 2 ≡ 13981014 ∷ 19573418 ∷ [])
unfolding sold_value value_into value_out imbalance count_leading_zeros trial_prices after_trial held_after first_least
halves_posted = (refl, refl)

-- the other numbers begin with 2, 3, 5, 6, 7 and 8: the prices move by a third of 2^24, halved as many times
others_end :
    (end_of halves ones 10 1 2 ≡ 15379115 ∷ 18175317 ∷ []) × (end_of halves ones 10 1 3 ≡ 16078166 ∷ 17476266 ∷ [])
    × (end_of halves ones 10 1 4 ≡ 16602454 ∷ 16951978 ∷ []) × (end_of halves ones 10 1 5 ≡ 16689835 ∷ 16864597 ∷ [])
    × (end_of halves ones 10 1 6 ≡ 16733526 ∷ 16820906 ∷ []) × (end_of halves ones 10 1 7 ≡ 16755371 ∷ 16799061 ∷ [])
unfolding sold_value value_into value_out imbalance count_leading_zeros trial_prices after_trial held_after
others_end = (refl, refl, refl, refl, refl, refl)
