-- The search for prices: it holds prices and tries others, each moved with what is wanted of its asset in excess, and
-- it holds those instead where they leave less imbalance.
use Rattle.std.specs.Prelude.{ℕ, zero, suc, ◌+◌, ◌-◌, ◌*◌, ◌/◌, ◌^◌, min, max, Bool, not, nat_lt, nat_le, ◌==◌, ◌&&◌}
use Rattle.std.specs.Prelude.{if◌then◌else◌, List, map, ℤ, pos, unsigned_abs, int_lt}
use Rattle.std.specs.Int.{leading_zeros, w128}
use Rattle.sx_price.specs.Limits.{least_price, most_price}
use Rattle.sx_curve.specs.declared.quote.Quote.{Quote}
use Rattle.sx_curve.specs.Demand.{assets_of, imbalance, net_of, price_of, volume_of}

-- ---- one price

-- how many binary digits a number below 2^128 has
abbrev pub binary_digits : ℕ → ℕ
binary_digits n = 128 - leading_zeros w128 n

-- the last digits of a volume that do not count: all but 64
abbrev pub dropped_digits : ℕ → ℕ
dropped_digits volume = binary_digits volume - 64

-- price * net / volume / 2^k, of nets and volumes without their dropped digits
abbrev pub price_change : ℕ → ℕ → ℕ → ℕ → ℕ
price_change k price net volume =
    price * (net / 2 ^ dropped_digits volume) / (volume / 2 ^ dropped_digits volume * 2 ^ k)

-- the nearest price in range
abbrev pub cut_to_range : ℕ → ℕ
cut_to_range price = max least_price (min most_price price)

-- the price rises where more is wanted than is sold, falls where less is, and stays where nothing trades
abbrev pub moved_price : ℕ → ℕ → ℤ → ℕ → ℕ
moved_price k price net volume =
    if volume == 0 then price
    else cut_to_range
    (if int_lt (pos 0) net then price + price_change k price (unsigned_abs net) volume
    else price - price_change k price (unsigned_abs net) volume)

-- ---- trials

-- the prices that the search holds, and the exponent of the next step
pub record Held : Type 0 where
  pub prices : List ℕ
  pub exponent : ℕ

-- the prices of the next trial
unfoldable pub trial_prices : List Quote → ℕ → Held → List ℕ
trial_prices quotes j held =
    map
    (λ asset. moved_price held.exponent (price_of held.prices asset) (net_of quotes held.prices j asset)
    (volume_of quotes held.prices j asset))
    (assets_of held.prices)

-- a trial with less imbalance is held and the next step is greater, and after any other it is smaller
unfoldable pub after_trial : List Quote → ℕ → Held → Held
after_trial quotes j held =
    if nat_lt (imbalance quotes (trial_prices quotes j held) j) (imbalance quotes held.prices j)
    then record { prices = trial_prices quotes j held; exponent = max 1 (held.exponent - 1) }
    else record { prices = held.prices; exponent = held.exponent + 1 }

-- there is something to mend, and steps are not too small yet
abbrev pub goes_on : List Quote → ℕ → Held → Bool
goes_on quotes j held = not (imbalance quotes held.prices j == 0) && nat_le held.exponent 40

-- what is held after at most this many trials
unfoldable pub held_after : List Quote → ℕ → ℕ → Held → Held
held_after quotes j zero held = held
held_after quotes j (suc trials) held =
    if goes_on quotes j held then held_after quotes j trials (after_trial quotes j held) else held

-- a search begins with an exponent
abbrev pub first_held : ℕ → List ℕ → Held
first_held first prices = record { prices = prices; exponent = first }

-- the prices that the search from these ones and this exponent ends at, in at most this many rounds
abbrev pub searched_from : ℕ → List Quote → List ℕ → ℕ → ℕ → List ℕ
searched_from first quotes prices j rounds = (held_after quotes j rounds (first_held first prices)).prices

-- where nothing else is said, it begins with this exponent
abbrev pub usual_exponent : ℕ
usual_exponent = 4

abbrev pub searched_prices : List Quote → List ℕ → ℕ → ℕ → List ℕ
searched_prices = searched_from usual_exponent
