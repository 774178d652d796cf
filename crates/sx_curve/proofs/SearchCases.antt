-- What pairs sell and what the search finds, computed at small cases that were worked out by hand.
use Rattle.std.proofs.Common.{◌≡◌, ℕ, ◌+◌, ◌-◌, ◌*◌, ◌^◌, List, [], ◌∷◌, pos, neg_ℤ, refl}
use lib.Count.{count_leading_zeros}
use Rattle.sx_curve.specs.declared.quote.Quote.{Quote}
use Rattle.sx_curve.specs.Demand.{imbalance, net_of, pair_value, sold_value, value_into, value_out, volume_of}
use Rattle.sx_curve.specs.Search.{after_trial, held_after, moved_price, price_change, searched_from}
use Rattle.sx_curve.specs.Search.{searched_prices, trial_prices}

abbrev one : ℕ
one = 2 ^ 24

abbrev ones : List ℕ
ones = one ∷ one ∷ []

abbrev quote : ℕ → ℕ → ℕ → ℕ → Quote
quote sell buy limit amount = record { sell = sell; buy = buy; limit = limit; amount = amount }

-- ---- what a pair sells

-- at the rate 1 with μ 2 ^ -10: above it, at it, just above its part that must trade, and at that part; so 8 units
-- must trade, and of the 4 the part 16383 / 16384 is sold
abbrev limits : List Quote
limits = quote 0 1 16777217 1 ∷ quote 0 1 16777216 2 ∷ quote 0 1 16760833 4 ∷ quote 0 1 16760832 8 ∷ []

limits_value : (sold_value limits ones 10 0 1 ≡ 8 * one + 4 * 16383 * 2 ^ 10) × (sold_value limits ones 10 1 0 ≡ 0)
unfolding sold_value
limits_value = (refl, refl)

-- in the middle between the two a half is sold, and with a margin twice as great, μ 2 ^ -9, a quarter
middle_value : (pair_value one one 10 (quote 0 1 (one - 2 ^ 13) 100 ∷ []) ≡ 50 * one)
    × (pair_value one one 9 (quote 0 1 (one - 2 ^ 13) 100 ∷ []) ≡ 25 * one)
middle_value = (refl, refl)

-- ---- one price

-- all digits but 64 are dropped from both: the first two volumes have 65, and the last has 64
changes : (price_change 1 (2 ^ 40) (2 ^ 63) (2 ^ 64 + 1) ≡ 2 ^ 38)
    × (price_change 1 (2 ^ 40) (2 ^ 63) (2 ^ 64 + 2) ≡ 2 ^ 38 - 1)
    × (price_change 1 (2 ^ 40) (2 ^ 62) (2 ^ 63 + 1) ≡ 2 ^ 38 - 1)
unfolding count_leading_zeros
changes = (refl, refl, refl)

-- without volume a price stays, even out of range, and others are cut to the range
moves : (moved_price 4 one (pos 0) 0 ≡ one) × (moved_price 1 (2 ^ 40) (pos 8) 8 ≡ 2 ^ 40)
    × (moved_price 1 (2 ^ 8) (neg_ℤ (pos 8)) 8 ≡ 2 ^ 8) × (moved_price 1 one (pos 3) 8 ≡ one + 3 * 2 ^ 20)
    × (moved_price 2 one (neg_ℤ (pos 3)) 8 ≡ one - 3 * 2 ^ 19)
unfolding count_leading_zeros
moves = (refl, refl, refl, refl, refl)

-- ---- trials

-- 100 of the first asset and 50 of the second, both at one half: more of the second is wanted
abbrev halves : List Quote
halves = quote 0 1 (2 ^ 23) 100 ∷ quote 1 0 (2 ^ 23) 50 ∷ []

halves_demand : (net_of halves ones 10 0 ≡ neg_ℤ (pos (50 * one))) × (net_of halves ones 10 1 ≡ pos (50 * one))
    × (volume_of halves ones 10 0 ≡ 150 * one) × (volume_of halves ones 10 1 ≡ 150 * one)
    × (imbalance halves ones 10 ≡ 1677721600) × (price_change 4 one (50 * one) (150 * one) ≡ 349525)
unfolding sold_value value_into value_out imbalance count_leading_zeros
halves_demand = (refl, refl, refl, refl, refl, refl)

halves_searched : (searched_prices halves ones 10 0 ≡ ones)
    × (searched_prices halves ones 10 1 ≡ 16427691 ∷ 17126741 ∷ [])
    × (imbalance halves (16427691 ∷ 17126741 ∷ []) 10 ≡ 1572864100)
unfolding sold_value value_into value_out imbalance count_leading_zeros trial_prices after_trial held_after
halves_searched = (refl, refl, refl)

-- one offer alone: steps of a sixteenth, an eighth and a quarter, and then it no longer trades, nothing is to mend,
-- and a fourth trial is not made; the exponent is at least 1, and the price of a third asset stays
alone_searched : held_after (quote 0 1 (2 ^ 23) 100 ∷ []) 10 4 (record { prices = one ∷ ones; exponent = 4 })
    ≡ record { prices = 10321920 ∷ 25067520 ∷ one ∷ []; exponent = 1 }
unfolding sold_value value_into value_out imbalance count_leading_zeros trial_prices after_trial held_after
alone_searched = refl

-- the first offer is at the rate and sells nothing yet: a step makes it sell too much, so each trial is given up
abbrev at_rate : List Quote
at_rate = quote 0 1 one 100 ∷ quote 1 0 (2 ^ 23) 50 ∷ []

at_rate_searched : held_after at_rate 10 3 (record { prices = ones; exponent = 4 })
    ≡ record { prices = ones; exponent = 7 }
unfolding sold_value value_into value_out imbalance count_leading_zeros trial_prices after_trial held_after
at_rate_searched = refl

-- at the exponent 40 one more trial is made, which changes nothing and is not held, and at 41 none
last_trial :
    (held_after at_rate 10 5 (record { prices = ones; exponent = 40 }) ≡ record { prices = ones; exponent = 41 })
    × (held_after at_rate 10 5 (record { prices = ones; exponent = 41 }) ≡ record { prices = ones; exponent = 41 })
unfolding sold_value value_into value_out imbalance count_leading_zeros trial_prices after_trial held_after
last_trial = (refl, refl)

-- the search may begin with another exponent: the first step is then a half and not a sixteenth
halves_searched_from_one : searched_from 1 halves ones 10 1 ≡ 13981014 ∷ 19573418 ∷ []
unfolding sold_value value_into value_out imbalance count_leading_zeros trial_prices after_trial held_after
halves_searched_from_one = refl

-- ---- three assets that all trade, at prices that divide nothing: no part in between comes out even

abbrev uneven : List ℕ
uneven = 16777259 ∷ 19999999 ∷ 12345701 ∷ []

-- the second and the sixth must trade, and the others may but need not
abbrev ring : List Quote
ring =
    quote 0 1 14065000 1000003 ∷ quote 0 1 10000000 77 ∷ quote 1 2 27160001 999983 ∷ quote 2 0 12340007 1000033
    ∷ quote 1 0 19990003 500009 ∷ quote 2 1 9000001 12345 ∷ quote 0 2 22780003 700001 ∷ []

ring_sells : (sold_value ring uneven 10 0 1 ≡ 10725945357279) × (sold_value ring uneven 10 0 2 ≡ 10279227312073)
    × (sold_value ring uneven 10 1 0 ≡ 5091811652394) × (sold_value ring uneven 10 1 2 ≡ 14346174389880)
    × (sold_value ring uneven 10 2 0 ≡ 5798460849912) × (sold_value ring uneven 10 2 1 ≡ 152407678845)
unfolding sold_value
ring_sells = (refl, refl, refl, refl, refl, refl)

ring_demand : (net_of ring uneven 10 0 ≡ neg_ℤ (pos 10114900167046))
    × (net_of ring uneven 10 1 ≡ neg_ℤ (pos 8559633006150)) × (net_of ring uneven 10 2 ≡ pos 18674533173196)
    × (volume_of ring uneven 10 0 ≡ 31895445171658) × (volume_of ring uneven 10 1 ≡ 30316339078398)
    × (volume_of ring uneven 10 2 ≡ 30576270230710) × (imbalance ring uneven 10 ≡ 37349066346392)
unfolding sold_value value_into value_out imbalance
ring_demand = (refl, refl, refl, refl, refl, refl, refl)

-- a trial goes too far and is given up
ring_trial :
    (trial_prices ring 10 (record { prices = uneven; exponent = 4 }) ≡ 16444727 ∷ 19647070 ∷ 12816961 ∷ [])
    × (after_trial ring 10 (record { prices = uneven; exponent = 4 }) ≡ record { prices = uneven; exponent = 5 })
unfolding sold_value value_into value_out imbalance count_leading_zeros trial_prices after_trial
ring_trial = (refl, refl)
