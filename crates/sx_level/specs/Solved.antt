-- A greatest circulation within bounds, or a cut, and how many searches it takes at most.
use Rattle.std.specs.Prelude.{◌≡◌, ℕ, ◌+◌, ◌*◌, ◌^◌, ◌<◌, List, length}
use Rattle.sx_dual.specs.Circulation.{HaveNoCirculation, IsGreatest}
use Rattle.sx_dual.specs.Cuts.{IsCutOf}
use Rattle.sx_dual.specs.Fit.{Fits}
use Rattle.sx_dual.specs.Sums.{EachPair}
use Rattle.sx_dual.specs.Tables.{BoundsTable, FlowTable, high_of, low_of, potential_of, value_of}
use Rattle.sx_level.specs.declared.solving.Solved.{Solved}
use Rattle.sx_level.specs.declared.solving.Solved.TheVariants.{Best, Cut}

-- a flow and potentials of n assets that fit the bounds
pub record IsBest (n : ℕ) (low high : ℕ → ℕ → ℕ) (flow : FlowTable) (potentials : List ℕ) : Type 0 where
  pub same_assets : flow.assets ≡ n
  pub one_potential : length potentials ≡ n
  pub fits : Fits n low high (value_of flow) (potential_of potentials)

-- they fit the bounds, or the cut is one by the bounds
abbrev pub IsSolved : BoundsTable → Solved → Type 0
IsSolved bounds (Best flow potentials) = IsBest bounds.assets (low_of bounds) (high_of bounds) flow potentials
IsSolved bounds (Cut cut) = IsCutOf bounds cut.0

-- no circulation trades more than the flow, which is one, and with a cut there is no circulation
abbrev pub IsDecided : BoundsTable → Solved → Type 0
IsDecided bounds (Best flow potentials) = IsGreatest bounds.assets (low_of bounds) (high_of bounds) (value_of flow)
IsDecided bounds (Cut cut) = HaveNoCirculation bounds.assets (low_of bounds) (high_of bounds)

-- each pair of n assets may trade less than 2 ^ b: its upper bound has at most b binary digits
abbrev pub HaveDigits : ℕ → (ℕ → ℕ → ℕ) → ℕ → Type 0
HaveDigits n high b = EachPair n (λ sell buy. high sell buy < 2 ^ b)

-- how many arcs there are between the assets, and between them, a source and a sink, both ways
abbrev pub arc_count : ℕ → ℕ
arc_count n = 2 * (n * (n + 1))

-- The number of searches for n assets and upper bounds below 2 ^ b. Potentials rise level by level, and there are at
-- most n levels: n + 1 are allowed for. A level has a scale for each of b binary digits, and one more is allowed for.
-- At a scale less than twice the scale is left to be sent over each arc; each search but the last finds a path, and
-- sends the scale at least.
abbrev pub most_searches : ℕ → ℕ → ℕ
most_searches n b = (n + 1) * (b + 1) * (2 * arc_count n + 1)
