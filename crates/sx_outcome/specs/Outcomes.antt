-- Outcomes, and their encoding.
use Rattle.std.specs.Prelude.{ℕ, ◌+◌, ◌*◌, ◌<◌, ◌≤◌, List, ◌++◌, length, All}
use Rattle.std.specs.List.{flat_map}
use Rattle.byteorder.specs.Endian.{big_bytes}
use Rattle.sx_base.specs.Ranges.{most_amount}
use Rattle.sx_outcome.specs.declared.outcome.Outcome.{Outcome}
use Rattle.sx_outcome.specs.declared.outcome.Outcome.TheVariants as outcome
use Rattle.sx_ledger.specs.Static.{number_of_static}

-- how many outcomes a list may have
abbrev pub most_outcomes : ℕ
most_outcomes = 1000000

-- how many bytes a list of outcomes takes at most
abbrev pub most_outcomes_bytes : ℕ
most_outcomes_bytes = 4 + 17 * most_outcomes

-- the number of the outcome, then its fields
abbrev pub outcome_bytes : Outcome → List ℕ
outcome_bytes outcome.Accepted = big_bytes 1 0
outcome_bytes (outcome.Static why) = big_bytes 1 1 ++ big_bytes 1 (number_of_static why)
outcome_bytes outcome.SeqTaken = big_bytes 1 2
outcome_bytes outcome.OfferTaken = big_bytes 1 3
outcome_bytes outcome.NameTaken = big_bytes 1 4
outcome_bytes (outcome.Overdraft seen need) = big_bytes 1 5 ++ (big_bytes 8 seen ++ big_bytes 8 need)

-- a list of outcomes, its length first
abbrev pub outcomes_bytes : List Outcome → List ℕ
outcomes_bytes outcomes = big_bytes 4 (length outcomes) ++ flat_map outcome_bytes outcomes

-- ---- the form

-- less was seen than was needed, and an amount was needed
abbrev pub IsShortage : ℕ → ℕ → Type 0
IsShortage seen need = (seen < need) × (need ≤ most_amount)

abbrev pub IsOutcome : Outcome → Type 0
IsOutcome outcome.Accepted = Unit {0}
IsOutcome (outcome.Static why) = Unit {0}
IsOutcome outcome.SeqTaken = Unit {0}
IsOutcome outcome.OfferTaken = Unit {0}
IsOutcome outcome.NameTaken = Unit {0}
IsOutcome (outcome.Overdraft seen need) = IsShortage seen need

pub record AreOutcomes (outcomes : List Outcome) : Type 0 where
  pub few : length outcomes ≤ most_outcomes
  pub each : All IsOutcome outcomes
