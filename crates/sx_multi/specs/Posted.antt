-- The prices of the best of several searches: the one whose result has the least imbalance.
use Rattle.std.specs.Prelude.{ℕ, zero, suc, ◌<◌, ◌≤◌, nat_lt, if◌then◌else◌, List, [], ◌∷◌, slice_index}
use Rattle.sx_curve.specs.declared.quote.Quote.{Quote}
use Rattle.sx_curve.specs.Demand.{imbalance}
use Rattle.sx_curve.specs.Search.{searched_from}

-- ---- the searches, by their numbers

-- the exponent that each begins with: the usual one first, then the others from the least on
abbrev pub first_exponents : List ℕ
first_exponents = 4 ∷ 1 ∷ 2 ∷ 3 ∷ 5 ∷ 6 ∷ 7 ∷ 8 ∷ []

-- the prices that search number i ends at, and how far these leave all assets from balance
abbrev pub end_of : List Quote → List ℕ → ℕ → ℕ → ℕ → List ℕ
end_of quotes start j rounds i = searched_from (slice_index first_exponents i) quotes start j rounds

abbrev pub off_of : List Quote → List ℕ → ℕ → ℕ → ℕ → ℕ
off_of quotes start j rounds i = imbalance quotes (end_of quotes start j rounds i) j

-- ---- the best

-- the number below n at which f is least, and of several the first
unfoldable pub first_least : (ℕ → ℕ) → ℕ → ℕ
first_least f zero = 0
first_least f (suc n) = if nat_lt (f n) (f (first_least f n)) then n else first_least f n

-- i is that number: none below n has less, and none before i has as little
pub record IsFirstLeast (f : ℕ → ℕ) (n i : ℕ) : Type 0 where
  pub below : i < n
  pub least : (k : ℕ) → k < n → f i ≤ f k
  pub first : (k : ℕ) → k < i → f i < f k

-- the prices of the best among the numbers below `searches`
abbrev pub posted : List Quote → List ℕ → ℕ → ℕ → ℕ → List ℕ
posted quotes start j rounds searches =
    end_of quotes start j rounds (first_least (off_of quotes start j rounds) searches)
