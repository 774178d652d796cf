-- Outcomes in a byte each: their kinds, and beside them the figures of those that are overdrafts.
use Rattle.std.specs.Prelude.{◌≡◌, ℕ, ◌+◌, ◌==◌, List, [], ◌∷◌, ◌++◌, length, nat_le, if◌then◌else◌, slice_index_or}
use Rattle.std.specs.List.{count_by}
use Rattle.sx_outcome.specs.declared.kinds.Shortage.{Shortage}
use Rattle.sx_outcome.specs.declared.outcome.Outcome.{Outcome}
use Rattle.sx_outcome.specs.declared.outcome.Outcome.TheVariants as outcome
use Rattle.sx_outcome.specs.OutcomeDecoding.{static_numbered}
use Rattle.sx_outcome.specs.Outcomes.{outcome_bytes}
use Rattle.sx_ledger.specs.Static.{number_of_static}

-- the kind of an outcome: what it is, without the figures of an overdraft
abbrev pub kind_of : Outcome → ℕ
kind_of outcome.Accepted = 0
kind_of (outcome.Static why) = number_of_static why
kind_of outcome.SeqTaken = 11
kind_of outcome.OfferTaken = 12
kind_of outcome.NameTaken = 13
kind_of (outcome.Overdraft seen need) = 14

-- the figures of an outcome, which only an overdraft has
abbrev pub figures_of : Outcome → List Shortage
figures_of outcome.Accepted = []
figures_of (outcome.Static why) = []
figures_of outcome.SeqTaken = []
figures_of outcome.OfferTaken = []
figures_of outcome.NameTaken = []
figures_of (outcome.Overdraft seen need) = record { seen = seen; need = need } ∷ []

-- the outcome of a kind without figures
abbrev pub plain_outcome : ℕ → Outcome
plain_outcome kind =
    if kind == 0 then outcome.Accepted else
    (if nat_le kind 10 then outcome.Static (static_numbered kind) else
    (if kind == 11 then outcome.SeqTaken else
    (if kind == 12 then outcome.OfferTaken else outcome.NameTaken)))

abbrev pub overdraft_of : Shortage → Outcome
overdraft_of figures = outcome.Overdraft figures.seen figures.need

-- the outcomes of these kinds, where each overdraft has the next figures
abbrev pub outcomes_of : List ℕ → List Shortage → List Outcome
outcomes_of [] figures = []
outcomes_of (kind ∷ kinds) [] = plain_outcome kind ∷ outcomes_of kinds []
outcomes_of (kind ∷ kinds) (next ∷ figures) =
    if kind == 14 then outcome.Overdraft next.seen next.need ∷ outcomes_of kinds figures
    else plain_outcome kind ∷ outcomes_of kinds (next ∷ figures)

-- how many of the kinds are an overdraft's
abbrev pub overdrafts_among : List ℕ → ℕ
overdrafts_among kinds = count_by (λ kind. kind == 14) kinds

-- there are figures for each overdraft, and no others
abbrev pub HaveFigures : List ℕ → List Shortage → Type 0
HaveFigures kinds figures = overdrafts_among kinds ≡ length figures

-- the outcome of a kind, where an overdraft has the figures at this place
abbrev pub outcome_at : ℕ → List Shortage → ℕ → Outcome
outcome_at kind figures next =
    if kind == 14 then overdraft_of (slice_index_or figures next (record { seen = 0; need = 0 })) else plain_outcome kind

-- The encoding of a kind's outcome was appended to these bytes. An overdraft has the figures at this place, and those
-- at the later place are the next ones.
pub record IsPut (old new : List ℕ) (kind : ℕ) (figures : List Shortage) (next later : ℕ) : Type 0 where
  pub written : new ≡ old ++ outcome_bytes (outcome_at kind figures next)
  pub passed : later ≡ (if kind == 14 then next + 1 else next)

-- what contracts see of a log: its outcomes, and for how many more there is memory
pub record Logged : Type 0 where
  pub outcomes : List Outcome
  pub spare : ℕ
