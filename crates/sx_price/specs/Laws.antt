-- Laws of the two rules and of the two roundings, for all numbers.
use Rattle.std.specs.Prelude.{◌≡◌, ℕ, ◌+◌, ◌*◌, ◌<◌, ◌≤◌, ◌↔◌, IsTrue}
use Rattle.sx_price.specs.Limits.{MayTrade, MustTrade, may_trade, must_trade}
use Rattle.sx_price.specs.Rounding.{rounded_up, rounded_down, IsLeastToReach, IsGreatestWithin}

-- the test says exactly what may trade
abbrev pub MayIsDecided : Type 0
MayIsDecided = (sell buy limit : ℕ) → IsTrue (may_trade sell buy limit) ↔ MayTrade sell buy limit

-- and the other exactly what must trade
abbrev pub MustIsDecided : Type 0
MustIsDecided = (sell buy limit j : ℕ) → IsTrue (must_trade sell buy limit j) ↔ MustTrade sell buy limit j

-- what must trade may trade
abbrev pub MustIsMay : Type 0
MustIsMay = (sell buy limit j : ℕ) → MustTrade sell buy limit j → MayTrade sell buy limit

-- the rate of the first two prices is at most that of the last two
abbrev pub RateUpTo : ℕ → ℕ → ℕ → ℕ → Type 0
RateUpTo sell buy sell' buy' = sell * buy' ≤ sell' * buy

-- what may trade at a rate may trade at a greater one
abbrev pub RateKeepsMay : Type 0
RateKeepsMay =
    (sell buy sell' buy' limit : ℕ) → 0 < buy → RateUpTo sell buy sell' buy' →
    MayTrade sell buy limit → MayTrade sell' buy' limit

-- what must trade at a rate must trade at a greater one
abbrev pub RateKeepsMust : Type 0
RateKeepsMust =
    (sell buy sell' buy' limit j : ℕ) → 0 < buy → RateUpTo sell buy sell' buy' →
    MustTrade sell buy limit j → MustTrade sell' buy' limit j

-- what may trade under a limit may trade under a lower one
abbrev pub LimitKeepsMay : Type 0
LimitKeepsMay =
    (sell buy limit limit' : ℕ) → limit' ≤ limit → MayTrade sell buy limit → MayTrade sell buy limit'

-- what must trade under a limit must trade under a lower one
abbrev pub LimitKeepsMust : Type 0
LimitKeepsMust =
    (sell buy limit limit' j : ℕ) → limit' ≤ limit →
    MustTrade sell buy limit j → MustTrade sell buy limit' j

-- rounded up is the least number of units that reaches the value
abbrev pub UpIsLeast : Type 0
UpIsLeast = (value price : ℕ) → 0 < price → IsLeastToReach value price (rounded_up value price)

-- rounded down is the greatest number of units that does not pass the value
abbrev pub DownIsGreatest : Type 0
DownIsGreatest =
    (value price : ℕ) → 0 < price → IsGreatestWithin value price (rounded_down value price)

-- the two are at most one apart
abbrev pub DownUpToUp : Type 0
DownUpToUp =
    (value price : ℕ) → 0 < price →
    (rounded_down value price ≤ rounded_up value price) ×
    (rounded_up value price ≤ rounded_down value price + 1)

-- the value of n units is n units, rounded either way
abbrev pub WholeUnitsStay : Type 0
WholeUnitsStay =
    (n price : ℕ) → 0 < price →
    (rounded_up (price * n) price ≡ n) × (rounded_down (price * n) price ≡ n)
