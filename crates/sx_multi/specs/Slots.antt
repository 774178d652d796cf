-- What the searches leave in their slots.
use Rattle.std.specs.Prelude.{◌≡◌, ℕ, ◌+◌, ◌<◌, List, length, slice_index_or, Option, Some, None, Result, IfOk}
use Rattle.sx_bytes.specs.declared.memory.NoMemory.{NoMemory}
use Rattle.sx_curve.specs.declared.quote.Quote.{Quote}
use Rattle.sx_curve.specs.Demand.{imbalance}
use Rattle.sx_multi.specs.Posted.{end_of}
use Rattle.sx_search.specs.declared.searching.Found.{Found}

-- a search ended at these prices, and tells their imbalance
abbrev pub EndsAt : List Quote → ℕ → List ℕ → Found → Type 0
EndsAt quotes j prices found = (found.prices ≡ prices) × (found.off ≡ imbalance quotes found.prices j)

-- search number i has ended, and where there was memory, at its prices
abbrev pub IsFound : List Quote → List ℕ → ℕ → ℕ → ℕ → Option (Result Found NoMemory) → Type 0
IsFound quotes start j rounds i None = ⊥
IsFound quotes start j rounds i (Some end) = IfOk end (EndsAt quotes j (end_of quotes start j rounds i))

-- so has each search from number i on
abbrev pub AreFound : List Quote → List ℕ → ℕ → ℕ → ℕ → List (Option (Result Found NoMemory)) → Type 0
AreFound quotes start j rounds i slots =
    (k : ℕ) (d : Option (Result Found NoMemory)) → k < length slots →
    IsFound quotes start j rounds (i + k) (slice_index_or slots k d)
