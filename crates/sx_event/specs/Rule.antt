-- The rule that every step keeps, in five parts.
use Rattle.std.specs.Prelude.{◌≡◌, ℕ, ◌+◌, ◌<◌, ◌≤◌, ◌==◌, ◌&&◌, Bool, true, false, nat_lt, nat_le, if◌then◌else◌}
use Rattle.std.specs.Prelude.{List, length, slice_index, sum_by, count_by, All}
use Rattle.std.specs.Int.{bit_at}
use Rattle.sx_event.specs.declared.marks.Claim.{Claim}
use Rattle.sx_event.specs.declared.marks.Claim.TheVariants.{Debit, Bit}
use Rattle.sx_event.specs.declared.marks.Note.{Note}
use Rattle.sx_event.specs.declared.marks.Note.TheVariants.{Low, Set}
use Rattle.sx_event.specs.View.{View, spent}
use Rattle.sx_event.specs.State.{State}

-- what a claim takes out of a purse
abbrev pub debit_in : ℕ → Claim → ℕ
debit_in purse (Debit of amount) = if of == purse then amount else 0
debit_in purse (Bit word bit) = 0

-- how often a claim has a bit
abbrev pub bit_in : ℕ → ℕ → Claim → ℕ
bit_in word bit (Debit purse amount) = 0
bit_in word bit (Bit of place) = if (of == word) && (place == bit) then 1 else 0

-- what a list of claims takes out of a purse
abbrev pub debits : List Claim → ℕ → ℕ
debits claims purse = sum_by (debit_in purse) claims

-- how often a list of claims has a bit
abbrev pub times : List Claim → ℕ → ℕ → ℕ
times claims word bit = sum_by (bit_in word bit) claims

-- the same of all views. A spent view has no claims
abbrev pub all_debits : List View → ℕ → ℕ
all_debits views purse = sum_by (λ view. debits view.claims purse) views

abbrev pub all_times : List View → ℕ → ℕ → ℕ
all_times views word bit = sum_by (λ view. times view.claims word bit) views

-- 1. each purse and what is claimed of it are what it was at the opening
pub record PursesAddUp (opening present : List ℕ) (claimed : ℕ → ℕ) : Type 0 where
  pub as_many : length present ≡ length opening
  pub adds_up : (purse : ℕ) → slice_index present purse + claimed purse ≡ slice_index opening purse

-- 2. each bit at the opening, and how often it is claimed, are what the bit is now. So a bit is set
-- where it was set at the opening or is claimed, and never both, and none is claimed twice
pub record BitsAddUp (opening present : List ℕ) (claimed : ℕ → ℕ → ℕ) : Type 0 where
  pub as_many : length present ≡ length opening
  pub adds_up : (word bit : ℕ) →
      bit_at (slice_index opening word) bit + claimed word bit ≡ bit_at (slice_index present word) bit

-- 3. what a Low note tells is at least the purse, and at most what the purse was at the opening
abbrev pub LowFits : List ℕ → List ℕ → Note → Type 0
LowFits opening present (Low purse value) =
    (slice_index present purse ≤ value) × (value ≤ slice_index opening purse)
LowFits opening present (Set word bit) = Unit {0}

abbrev pub LowsFit : List ℕ → List ℕ → List View → Type 0
LowsFit opening present views = All (λ view. All (LowFits opening present) view.notes) views

-- 4. the bit of a Set note is set
abbrev pub SetFits : List ℕ → Note → Type 0
SetFits present (Low purse value) = Unit {0}
SetFits present (Set word bit) = bit_at (slice_index present word) bit ≡ 1

abbrev pub SetsFit : List ℕ → List View → Type 0
SetsFit present views = All (λ view. All (SetFits present) view.notes) views

-- whether a candidate is a live view's own
abbrev pub owns : ℕ → View → Bool
owns candidate view = view.live && (nat_le view.from candidate && nat_lt candidate view.end)

-- whether a view is live
abbrev pub is_live : View → Bool
is_live view = view.live

-- a live view has a candidate
abbrev pub IsFilled : View → Type 0
IsFilled view = view.live ≡ true → view.from < view.end

-- what is not live has nothing
abbrev pub IsBare : View → Type 0
IsBare view = view.live ≡ false → view ≡ spent

-- 5. each candidate is one live view's own. No live view is empty, but where there are no
-- candidates there is one live view. A spent view has nothing
pub record RangesPart (count : ℕ) (views : List View) : Type 0 where
  pub one_owner : (candidate : ℕ) →
      count_by (owns candidate) views ≡ (if nat_lt candidate count then 1 else 0)
  pub filled : 0 < count → All IsFilled views
  pub lone : count ≡ 0 → count_by is_live views ≡ 1
  pub bare : All IsBare views

-- all five
pub record Rule (state : State) : Type 0 where
  pub purses : PursesAddUp state.opening_purses state.purses (all_debits state.views)
  pub bits : BitsAddUp state.opening_bits state.bits (all_times state.views)
  pub lows : LowsFit state.opening_purses state.purses state.views
  pub sets : SetsFit state.bits state.views
  pub ranges : RangesPart state.count state.views
