-- Bounds, fills, rounding and trading, computed at small cases that were worked out by hand.
use Rattle.std.proofs.Common.{◌≡◌, ℕ, ◌*◌, ◌^◌, true, false, List, [], ◌∷◌, refl}
use Rattle.sx_ledger.specs.declared.offer.Offer.{Offer}
use Rattle.sx_ledger.specs.declared.parts.Parts.{Parts}
use Rattle.sx_ledger.specs.Bounds.{high_of, low_of}
use Rattle.sx_ledger.specs.Fills.{Flow, IsRounding, gives, gets, given, got}
use Rattle.sx_ledger.specs.Trade.{traded}
use Rattle.sx_ledger.proofs.CaseWords.{account, offer, one, state}

-- every pair trades one value
abbrev each_pair : ℕ → Flow
each_pair value sell buy = value

abbrev ones : List ℕ
ones = one ∷ one ∷ one ∷ []

abbrev three_two : List ℕ
three_two = 3 * 2 ^ 20 ∷ 2 * 2 ^ 20 ∷ []

-- ---- bounds

-- at the rate 1 with μ 2 ^ -10: above it, at it, just above its part that must trade, and at that part
abbrev limits : List Offer
limits = offer 0 1 16777217 1 1 1 ∷ offer 0 1 16777216 1 2 2 ∷ offer 0 1 16760833 1 3 4 ∷ offer 0 1 16760832 1 4
    8 ∷ []

limit_bounds : (low_of ones 10 false limits 0 1 ≡ 8 * one) × (high_of ones limits 0 1 ≡ 14 * one)
    × (low_of ones 10 true limits 0 1 ≡ 0) × (high_of ones limits 1 0 ≡ 0) × (high_of ones limits 0 2 ≡ 0)
limit_bounds = (refl, refl, refl, refl, refl)

-- at the rate 3 to 2: at it, and above it
abbrev at_three_two : List Offer
at_three_two = offer 0 1 25165824 1 1 1 ∷ offer 0 1 25165825 1 2 2 ∷ []

rate_bounds : high_of three_two at_three_two 0 1 ≡ 3 * 2 ^ 20
rate_bounds = refl

-- ---- fills

-- 100 of the first asset at the limit 1, and 60 of the second at one half: 60 trade, 40 stay
abbrev half : List Offer
half = offer 0 1 (2 ^ 24) 1 1 100 ∷ offer 1 0 (2 ^ 23) 2 1 60 ∷ []

half_traded : traded (state (one ∷ one ∷ []) (account 1 1 (0 ∷ 0 ∷ []) ∷ account 2 1 (0 ∷ 0 ∷ []) ∷ []) half)
    (one ∷ one ∷ []) (each_pair (60 * one)) (0 ∷ 0 ∷ [])
    ≡ record {
      version = 1;
      height = 1;
      prices = one ∷ one ∷ [];
      rounding = 0 ∷ 0 ∷ [];
      accounts = account 1 1 (0 ∷ 60 ∷ []) ∷ account 2 1 (60 ∷ 0 ∷ []) ∷ [];
      offers = offer 0 1 (2 ^ 24) 1 1 40 ∷ [];
    }
half_traded = refl

-- the lower limit comes first, although its account has the greater id
abbrev lower_limit : List Offer
lower_limit = offer 0 1 (2 ^ 23) 2 1 10 ∷ offer 0 1 (2 ^ 24) 1 1 10 ∷ []

lower_limit_first : (gives ones (each_pair (15 * one)) lower_limit (offer 0 1 (2 ^ 23) 2 1 10) ≡ 10)
    × (gives ones (each_pair (15 * one)) lower_limit (offer 0 1 (2 ^ 24) 1 1 10) ≡ 5)
lower_limit_first = (refl, refl)

-- of one limit the lesser id comes first, and of one account the lesser sequence number
abbrev equal_limits : List Offer
equal_limits = offer 0 1 (2 ^ 24) 1 2 10 ∷ offer 0 1 (2 ^ 24) 1 3 10 ∷ offer 0 1 (2 ^ 24) 2 1 10 ∷ offer 1 0 (2 ^ 23)
    3 1 15 ∷ []

equal_limits_fill : (gives ones (each_pair (15 * one)) equal_limits (offer 0 1 (2 ^ 24) 1 2 10) ≡ 10)
    × (gives ones (each_pair (15 * one)) equal_limits (offer 0 1 (2 ^ 24) 1 3 10) ≡ 5)
    × (gives ones (each_pair (15 * one)) equal_limits (offer 0 1 (2 ^ 24) 2 1 10) ≡ 0)
    × (gets ones (each_pair (15 * one)) equal_limits (offer 1 0 (2 ^ 23) 3 1 15) ≡ 15)
equal_limits_fill = (refl, refl, refl, refl)

-- offers of another pair take nothing from a pair
abbrev two_pairs : List Offer
two_pairs = offer 0 1 (2 ^ 23) 1 1 10 ∷ offer 0 2 (2 ^ 24) 1 2 10 ∷ []

two_pairs_fill : gives ones (each_pair (15 * one)) two_pairs (offer 0 2 (2 ^ 24) 1 2 10) ≡ 10
two_pairs_fill = refl

-- ---- rounding

-- at 3 to 2, 5 and 8 units that must trade: 15 against 16 in units of 2 ^ 20, and the second asset keeps one unit
abbrev odd : List Offer
odd = offer 0 1 (2 ^ 22) 1 1 5 ∷ offer 1 0 (2 ^ 22) 2 1 8 ∷ []

odd_bounds : (low_of three_two 10 false odd 0 1 ≡ 15 * 2 ^ 20) × (high_of three_two odd 0 1 ≡ 15 * 2 ^ 20)
    × (low_of three_two 10 false odd 1 0 ≡ 16 * 2 ^ 20) × (high_of three_two odd 1 0 ≡ 16 * 2 ^ 20)
odd_bounds = (refl, refl, refl, refl)

abbrev odd_flow : Flow
odd_flow = each_pair (15 * 2 ^ 20)

odd_rounding : IsRounding three_two odd_flow odd 0 0 × IsRounding three_two odd_flow odd 1 1
    × (given three_two odd_flow odd 0 ≡ 5) × (got three_two odd_flow odd 0 ≡ 5)
    × (given three_two odd_flow odd 1 ≡ 8) × (got three_two odd_flow odd 1 ≡ 7)
odd_rounding = (refl, refl, refl, refl, refl, refl)

-- the unit is added to what the ledger kept before, and the prices are those of the block
odd_opening : Parts
odd_opening = record {
  version = 1;
  height = 8;
  prices = one ∷ one ∷ [];
  rounding = 3 ∷ 4 ∷ [];
  accounts = account 1 1 (2 ∷ 1 ∷ []) ∷ account 2 1 (0 ∷ 0 ∷ []) ∷ [];
  offers = odd;
}

odd_traded : traded odd_opening three_two odd_flow (0 ∷ 1 ∷ [])
    ≡ record {
      version = 1;
      height = 9;
      prices = three_two;
      rounding = 3 ∷ 5 ∷ [];
      accounts = account 1 1 (2 ∷ 8 ∷ []) ∷ account 2 1 (5 ∷ 0 ∷ []) ∷ [];
      offers = [];
    }
unfolding odd_opening
odd_traded = refl

-- prices that were searched: what is given is rounded up, what is got is rounded down
abbrev searched : List ℕ
searched = 16427691 ∷ 17126741 ∷ []

abbrev dropped : List Offer
dropped = offer 0 1 (2 ^ 23) 1 1 100 ∷ offer 1 0 (2 ^ 23) 2 1 50 ∷ []

dropped_bounds : (high_of searched dropped 0 1 ≡ 1642769100) × (high_of searched dropped 1 0 ≡ 856337050)
dropped_bounds = (refl, refl)

dropped_fill : (given searched (each_pair 856337050) dropped 0 ≡ 53)
    × (got searched (each_pair 856337050) dropped 1 ≡ 50)
    × (given searched (each_pair 856337050) dropped 1 ≡ 50) × (got searched (each_pair 856337050) dropped 0 ≡ 52)
dropped_fill = (refl, refl, refl, refl)
