-- A gathering and its passes, and what each pass keeps.
use Rattle.std.specs.Prelude.{◌≡◌, ℕ, ◌+◌, ◌<◌, ◌≤◌, List, length, map, drop, slice_get, slice_index_or, Some, Ok, Err}
use Rattle.std.specs.List.{All, Contains}
use Rattle.sx_event.specs.declared.marks.Note.{Note}
use Rattle.sx_event.specs.declared.marks.Note.TheVariants.{Low, Set}
use Rattle.sx_event.specs.View.{View, spent}
use Rattle.sx_layout.specs.declared.asked.Wanted.{Wanted}
use Rattle.sx_layout.specs.declared.asked.Wanted.TheVariants as wanted
use Rattle.sx_outcome.specs.declared.outcome.Outcome.{Outcome}
use Rattle.sx_outcome.specs.declared.outcome.Outcome.TheVariants as outcome
use Rattle.sx_layout.specs.declared.spot.Spot.{Spot}
use Rattle.sx_layout.specs.Asked.{number_spot, wanted_of}
use Rattle.sx_layout.specs.Deciding.{too_late}
use Rattle.sx_outcome.specs.Gathering.{Decision, decisions}
use Rattle.sx_layout.specs.Marks.{marks}
use Rattle.sx_layout.specs.Plan.{Plan, plan_of, words_of}
use Rattle.sx_layout.specs.PlanLaws.{IsLaidOut}
use Rattle.sx_outcome.specs.Room.{room_for}
use Rattle.sx_ledger.specs.declared.parts.Parts.{Parts}
use Rattle.sx_ledger.specs.Static.{static_of}
use Rattle.sx_shard.specs.Models.{Shown, Seated, IsOf}
use Rattle.sx_tx.specs.declared.tx.Tx.{Tx}

-- ---- what contracts see

-- the parts of the ledger, the candidates, where their words are, and the shards that have the words
pub record Gathering : Type 0 where
  pub parts : Parts
  pub candidates : List Tx
  pub plan : Plan
  pub shards : List Shown

-- a range of candidates, from the first up to the end, of which those before `next` are decided; their outcomes; for
-- how many more outcomes there is memory; and a seat at each shard
pub record Passing : Type 0 where
  pub from : ℕ
  pub next : ℕ
  pub end : ℕ
  pub outcomes : List Outcome
  pub spare : ℕ
  pub seats : List Seated

-- ---- seats

-- the view of the seat at a shard
abbrev pub view_at : List Seated → ℕ → View
view_at seats shard = slice_index_or (map (λ seat. seat.view) seats) shard spent

-- the seat at a shard has noted this
abbrev pub HasNoted : List Seated → ℕ → Note → Type 0
HasNoted seats shard note = Contains (view_at seats shard).notes note

-- a seat at each shard
pub record AreSeats (shards : List Shown) (seats : List Seated) : Type 0 where
  pub one_each : length seats ≡ length shards
  pub of : (k : ℕ) (shard : Shown) (seat : Seated) → slice_get shards k ≡ Some shard → slice_get seats k ≡ Some seat
      → IsOf shard seat

-- ---- a gathering

-- the shard was started with the opening words that the plan has for it, for all candidates
pub record IsStarted (gather : Gathering) (k : ℕ) (shard : Shown) : Type 0 where
  pub purses : shard.purses ≡ words_of gather.plan.purses k
  pub bits : shard.bits ≡ words_of gather.plan.bits k
  pub count : shard.count ≡ length gather.candidates

-- the ledger has room for the candidates, and each shard was started as the plan says
pub record IsGathering (gather : Gathering) : Type 0 where
  pub laid_out : IsLaidOut gather.parts gather.candidates gather.plan.shards
  pub plan : gather.plan ≡ plan_of gather.parts gather.candidates gather.plan.shards
  pub room : room_for gather.parts gather.candidates ≡ Ok tt
  pub one_each : length gather.shards ≡ gather.plan.shards
  pub started : (k : ℕ) (shard : Shown) → slice_get gather.shards k ≡ Some shard → IsStarted gather k shard

-- ---- what was seen of a refusal

-- the bit was seen set
abbrev pub SawSet : List Seated → Spot → ℕ → Type 0
SawSet seats at bit = HasNoted seats at.shard (Set at.word bit)

-- a bit is wanted, and it was seen set
abbrev pub SawGone : List Seated → Wanted → Type 0
SawGone seats (wanted.Bit at bit) = SawSet seats at bit
SawGone seats (wanted.Units purse need) = ⊥

-- the purse was seen at a value, which is less than what is needed
pub record SawLow (seats : List Seated) (purse : Spot) (seen need : ℕ) : Type 0 where
  pub short : seen < need
  pub low : HasNoted seats purse.shard (Low purse.word seen)

-- units are wanted, as many as are needed, and the purse was seen to have less
abbrev pub SawShort : List Seated → Wanted → ℕ → ℕ → Type 0
SawShort seats (wanted.Bit at bit) seen need = ⊥
SawShort seats (wanted.Units purse amount) seen need = (need ≡ amount) × SawLow seats purse seen need

-- what the seats of a pass show of the outcome of a candidate
abbrev pub Shows : Parts → Plan → List Seated → Tx → Outcome → Type 0
Shows parts plan seats tx outcome.Accepted = static_of parts tx ≡ Ok tt
Shows parts plan seats tx (outcome.Static why) = static_of parts tx ≡ Err why
Shows parts plan seats tx outcome.SeqTaken =
    (static_of parts tx ≡ Ok tt) × SawSet seats (number_spot parts plan tx).0 (number_spot parts plan tx).1
Shows parts plan seats tx outcome.OfferTaken =
    (static_of parts tx ≡ Ok tt) × (too_late tx.kind ≡ outcome.OfferTaken) × SawGone seats (wanted_of parts plan tx)
Shows parts plan seats tx outcome.NameTaken =
    (static_of parts tx ≡ Ok tt) × (too_late tx.kind ≡ outcome.NameTaken) × SawGone seats (wanted_of parts plan tx)
Shows parts plan seats tx (outcome.Overdraft seen need) =
    (static_of parts tx ≡ Ok tt) × SawShort seats (wanted_of parts plan tx) seen need

-- ---- a pass

-- the candidates that a pass has decided, with their outcomes
abbrev pub decided : Gathering → Passing → List Decision
decided gather pass = decisions (drop pass.from gather.candidates) pass.outcomes

-- the view of a pass's seat has the range of the pass, and it has claimed the marks of the decided candidates
pub record IsViewOf (gather : Gathering) (pass : Passing) (shard : ℕ) (view : View) : Type 0 where
  pub from : view.from ≡ pass.from
  pub end : view.end ≡ pass.end
  pub claims : view.claims ≡ marks gather.parts gather.plan shard (decided gather pass)

-- all that a pass keeps
pub record IsPassOf (gather : Gathering) (pass : Passing) : Type 0 where
  pub gathering : IsGathering gather
  pub begins : pass.from ≤ pass.next
  pub goes_on : pass.next ≤ pass.end
  pub ends : pass.end ≤ length gather.candidates
  pub one_each : pass.from + length pass.outcomes ≡ pass.next
  pub seats : AreSeats gather.shards pass.seats
  pub views : (shard : ℕ) → shard < length gather.shards → IsViewOf gather pass shard (view_at pass.seats shard)
  pub shows : All (λ one. Shows gather.parts gather.plan pass.seats one.tx one.outcome) (decided gather pass)
