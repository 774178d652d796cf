-- Laws of the posted prices.
use Rattle.std.specs.Prelude.{◌≡◌, ℕ, ◌≤◌, List}
use Rattle.std.specs.List.Sorted.{IsPermutation}
use Rattle.sx_curve.specs.declared.quote.Quote.{Quote}
use Rattle.sx_curve.specs.Demand.{imbalance}
use Rattle.sx_curve.specs.Search.{searched_prices}
use Rattle.sx_multi.specs.Posted.{IsFirstLeast, end_of, off_of, posted}

-- they are the prices of one of the searches: no search has less imbalance, and none before it has as little
abbrev pub PostedIsBest : Type 0
PostedIsBest =
    (quotes : List Quote) (start : List ℕ) (j rounds searches : ℕ) → 1 ≤ searches →
    (i : ℕ) × IsFirstLeast (off_of quotes start j rounds) searches i
    × (posted quotes start j rounds searches ≡ end_of quotes start j rounds i)

-- they leave no more imbalance than the usual search
abbrev pub PostedMends : Type 0
PostedMends =
    (quotes : List Quote) (start : List ℕ) (j rounds searches : ℕ) →
    imbalance quotes (posted quotes start j rounds searches) j
    ≤ imbalance quotes (searched_prices quotes start j rounds) j

-- one search is the usual one
abbrev pub OneIsUsual : Type 0
OneIsUsual =
    (quotes : List Quote) (start : List ℕ) (j rounds : ℕ) →
    posted quotes start j rounds 1 ≡ searched_prices quotes start j rounds

-- more searches leave no more imbalance than fewer
abbrev pub MoreAreNoWorse : Type 0
MoreAreNoWorse =
    (quotes : List Quote) (start : List ℕ) (j rounds few many : ℕ) → few ≤ many →
    imbalance quotes (posted quotes start j rounds many) j ≤ imbalance quotes (posted quotes start j rounds few) j

-- the order of the quotes is of no account
abbrev pub PostedPermuted : Type 0
PostedPermuted =
    (xs ys : List Quote) (start : List ℕ) (j rounds searches : ℕ) → IsPermutation xs ys →
    posted ys start j rounds searches ≡ posted xs start j rounds searches
