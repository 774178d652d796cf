-- The claims that decided candidates leave in each shard, and what then follows for the outcomes.
use Rattle.std.specs.Prelude.{◌≡◌, ◌≢◌, ℕ, ◌<◌, ◌≤◌, List, [], ◌∷◌, ◌++◌, length, Some, Ok, Err}
use Rattle.std.specs.Prelude.{slice_get, slice_index, ◌==◌, if◌then◌else◌}
use Rattle.std.specs.Int.{bit_at}
use Rattle.std.specs.List.{flat_map}
use Rattle.sx_event.specs.declared.marks.Claim.{Claim}
use Rattle.sx_event.specs.declared.marks.Claim.TheVariants.{Debit, Bit}
use Rattle.sx_event.specs.Rule.{PursesAddUp, BitsAddUp, debits as claimed_debits, times}
use Rattle.sx_layout.specs.declared.asked.Wanted.{Wanted}
use Rattle.sx_layout.specs.declared.asked.Wanted.TheVariants as wanted
use Rattle.sx_outcome.specs.declared.outcome.Outcome.{Outcome}
use Rattle.sx_outcome.specs.declared.outcome.Outcome.TheVariants as outcome
use Rattle.sx_layout.specs.declared.spot.Spot.{Spot}
use Rattle.sx_layout.specs.Asked.{number_spot, wanted_of}
use Rattle.sx_layout.specs.Deciding.{too_late}
use Rattle.sx_outcome.specs.Gathering.{Decision, decisions, is_accepted, keeps_number, body_of, IsGathered}
use Rattle.sx_layout.specs.Plan.{Plan, plan_of, words_of}
use Rattle.sx_layout.specs.PlanLaws.{IsLaidOut}
use Rattle.sx_outcome.specs.Room.{room_for}
use Rattle.sx_ledger.specs.declared.parts.Parts.{Parts}
use Rattle.sx_ledger.specs.Static.{static_of}
use Rattle.sx_tx.specs.declared.tx.Tx.{Tx}

-- ---- marks

-- the claim of a bit, if its word is in this shard
abbrev pub bit_mark : ℕ → Spot → ℕ → List Claim
bit_mark shard at bit = if at.shard == shard then Bit at.word bit ∷ [] else []

-- the claim of an amount, if its purse is in this shard
abbrev pub debit_mark : ℕ → Spot → ℕ → List Claim
debit_mark shard purse need = if purse.shard == shard then Debit purse.word need ∷ [] else []

abbrev pub wanted_mark : ℕ → Wanted → List Claim
wanted_mark shard (wanted.Bit at bit) = bit_mark shard at bit
wanted_mark shard (wanted.Units purse need) = debit_mark shard purse need

-- the claims of a decided candidate in this shard: its number unless another has it, and then what it wanted if it is
-- accepted
abbrev pub marks_of : Parts → Plan → ℕ → Decision → List Claim
marks_of parts plan shard one =
    (if keeps_number one.outcome
    then bit_mark shard (number_spot parts plan one.tx).0 (number_spot parts plan one.tx).1
    else [])
    ++ (if is_accepted one.outcome then wanted_mark shard (wanted_of parts plan one.tx) else [])

-- those of all, in the order of the candidates
abbrev pub marks : Parts → Plan → ℕ → List Decision → List Claim
marks parts plan shard list = flat_map (marks_of parts plan shard) list

-- the marks of more decided candidates come after those of the first
abbrev pub MarksJoin : Type 0
MarksJoin =
    (parts : Parts) (plan : Plan) (shard : ℕ) (list more : List Decision)
    → marks parts plan shard (list ++ more) ≡ marks parts plan shard list ++ marks parts plan shard more

-- and so do those of one more
abbrev pub MarksGrow : Type 0
MarksGrow =
    (parts : Parts) (plan : Plan) (shard : ℕ) (list : List Decision) (one : Decision)
    → marks parts plan shard (list ++ one ∷ []) ≡ marks parts plan shard list ++ marks_of parts plan shard one

-- the shard of what is wanted
abbrev pub shard_of : Wanted → ℕ
shard_of (wanted.Bit at bit) = at.shard
shard_of (wanted.Units purse need) = purse.shard

-- a candidate leaves nothing in a shard that has neither its number nor what it wanted
abbrev pub MarksElsewhere : Type 0
MarksElsewhere =
    (parts : Parts) (plan : Plan) (shard : ℕ) (one : Decision) → (number_spot parts plan one.tx).0.shard ≢ shard
    → shard_of (wanted_of parts plan one.tx) ≢ shard → marks_of parts plan shard one ≡ []

-- ---- the closing law

-- the bit is set in the words of the shards
abbrev pub IsSet : (ℕ → List ℕ) → Spot → ℕ → Type 0
IsSet bits at bit = bit_at (slice_index (bits at.shard) at.word) bit ≡ 1

-- a bit is wanted, and it is set
abbrev pub IsGone : (ℕ → List ℕ) → Wanted → Type 0
IsGone bits (wanted.Bit at bit) = IsSet bits at bit
IsGone bits (wanted.Units purse need) = ⊥

-- the purse had `seen` at some time, which is less than what is needed
pub record IsShort (plan : Plan) (purses : ℕ → List ℕ) (at : Spot) (seen need : ℕ) : Type 0 where
  pub short : seen < need
  pub low : slice_index (purses at.shard) at.word ≤ seen
  pub opening : seen ≤ slice_index (words_of plan.purses at.shard) at.word

-- units are wanted, as many as are needed, and the purse was short of them
abbrev pub IsMissed : Plan → (ℕ → List ℕ) → Wanted → ℕ → ℕ → Type 0
IsMissed plan purses (wanted.Bit at bit) seen need = ⊥
IsMissed plan purses (wanted.Units purse amount) seen need = (need ≡ amount) × IsShort plan purses purse seen need

-- what the closing words show of an outcome
abbrev pub Closes : Parts → Plan → (ℕ → List ℕ) → (ℕ → List ℕ) → Tx → Outcome → Type 0
Closes parts plan purses bits tx outcome.Accepted = static_of parts tx ≡ Ok tt
Closes parts plan purses bits tx (outcome.Static why) = static_of parts tx ≡ Err why
Closes parts plan purses bits tx outcome.SeqTaken =
    (static_of parts tx ≡ Ok tt) × IsSet bits (number_spot parts plan tx).0 (number_spot parts plan tx).1
Closes parts plan purses bits tx outcome.OfferTaken =
    (static_of parts tx ≡ Ok tt) × (too_late tx.kind ≡ outcome.OfferTaken) × IsGone bits (wanted_of parts plan tx)
Closes parts plan purses bits tx outcome.NameTaken =
    (static_of parts tx ≡ Ok tt) × (too_late tx.kind ≡ outcome.NameTaken) × IsGone bits (wanted_of parts plan tx)
Closes parts plan purses bits tx (outcome.Overdraft seen need) =
    (static_of parts tx ≡ Ok tt) × IsMissed plan purses (wanted_of parts plan tx) seen need

-- words at which a gathering of these candidates may close with these outcomes: in each shard its opening words, the
-- marks and the closing words add up
pub record IsClosing (parts : Parts) (candidates : List Tx) (shards : ℕ) (outcomes : List Outcome)
    (purses bits : ℕ → List ℕ) : Type 0 where
  pub laid_out : IsLaidOut parts candidates shards
  pub room : room_for parts candidates ≡ Ok tt
  pub one_each : length outcomes ≡ length candidates
  pub closes : (place : ℕ) (one : Decision) → slice_get (decisions candidates outcomes) place ≡ Some one
      → Closes parts (plan_of parts candidates shards) purses bits one.tx one.outcome
  pub purses_add_up : (shard : ℕ) → shard < shards
      → PursesAddUp (words_of (plan_of parts candidates shards).purses shard) (purses shard)
      (claimed_debits (marks parts (plan_of parts candidates shards) shard (decisions candidates outcomes)))
  pub bits_add_up : (shard : ℕ) → shard < shards
      → BitsAddUp (words_of (plan_of parts candidates shards).bits shard) (bits shard)
      (times (marks parts (plan_of parts candidates shards) shard (decisions candidates outcomes)))

-- outcomes at which a gathering may close are outcomes of gathering
abbrev pub ClosingGathers : Type 0
ClosingGathers =
    (parts : Parts) (candidates : List Tx) (shards : ℕ) (outcomes : List Outcome) (purses bits : ℕ → List ℕ)
    → IsClosing parts candidates shards outcomes purses bits
    → IsGathered parts candidates outcomes (body_of (decisions candidates outcomes))
