-- What was seen of the words stays true: no purse rises, and no bit is cleared.
use Rattle.std.proofs.Common.{ℕ, ◌-◌, ◌≤◌, Bool, true, false, List, refl, arith}
use Rattle.std.specs.Prelude.{slice_index, slice_set, if◌then◌else◌}
use Rattle.std.specs.Int.{bit_at}
use Rattle.std.proofs.lemmas.Nat.Bits.{bit_at-lt}
use Rattle.sx_event.specs.declared.event.Event.{Event}
use Rattle.sx_event.specs.declared.event.Event.TheVariants as event
use Rattle.sx_event.specs.declared.marks.Claim.{Claim}
use Rattle.sx_event.specs.State.{State, view_of, purse_of}
use Rattle.sx_event.specs.Step.{stepped, wins}
use Rattle.sx_event.proofs.Read.{bits_stay}
use Rattle.sx_event.proofs.Words.{found_stays, taken_falls}
use Rattle.sx_layout.specs.declared.asked.Wanted.{Wanted}
use Rattle.sx_layout.specs.declared.asked.Wanted.TheVariants as wanted
use Rattle.sx_outcome.specs.declared.outcome.Outcome.{Outcome}
use Rattle.sx_outcome.specs.declared.outcome.Outcome.TheVariants as outcome
use Rattle.sx_layout.specs.declared.spot.Spot.{Spot}
use Rattle.sx_script.specs.Actors.{Actor}
use Rattle.sx_layout.specs.Asked.{number_spot, wanted_of}
use Rattle.sx_layout.specs.Marks.{Closes, IsGone, IsMissed, IsSet}
use Rattle.sx_layout.specs.Plan.{Plan}
use Rattle.sx_script.proofs.ActorMarks.{ActorKeeps}
use Rattle.sx_outcome.proofs.DecidedPairs.{decided_map}
use Rattle.sx_ledger.specs.declared.parts.Parts.{Parts}
use Rattle.sx_tx.specs.declared.tx.Tx.{Tx}

pub record Later (purses bits new_purses new_bits : List ℕ) : Type 0 where
  pub falls : (purse : ℕ) → slice_index new_purses purse ≤ slice_index purses purse
  pub stays : (word bit : ℕ) → bit_at (slice_index bits word) bit ≤ bit_at (slice_index new_bits word) bit

-- ---- a step

taken_by : (purses : List ℕ) (purse need other : ℕ) (won : Bool) →
    slice_index (slice_set purses purse (if won then slice_index purses purse - need else slice_index purses purse))
    other
    ≤ slice_index purses other
taken_by purses purse need other true = taken_falls purses purse (slice_index purses purse) need other refl
taken_by purses purse need other false = rw (found_stays purses purse) (omega arith)

falls_at : (state : State) (name : ℕ) (e : Event) (purse : ℕ) →
    slice_index (stepped state name e).purses purse ≤ slice_index state.purses purse
falls_at state name (event.Look of) purse = omega arith
falls_at state name (event.Take of need) purse =
    taken_by state.purses of need purse (wins (view_of state name) of (purse_of state of))
falls_at state name (event.Claim word bit) purse = omega arith
falls_at state name (event.Split at) purse = omega arith
falls_at state name (event.Join other) purse = omega arith

pub step_later : (state : State) (name : ℕ) (e : Event) →
    Later state.purses state.bits (stepped state name e).purses (stepped state name e).bits
step_later state name e = record { falls = falls_at state name e; stays = bits_stay state name e }

pub same_later : (purses bits : List ℕ) → Later purses bits purses bits
same_later purses bits = record { falls = λ purse. omega arith; stays = λ word bit. omega arith }

-- ---- what was seen

module _ (parts : Parts) (plan : Plan) (purses bits new_purses new_bits : List ℕ)
    (later : Later purses bits new_purses new_bits) where
  set_later : (at : Spot) (bit : ℕ) → IsSet (λ shard. bits) at bit → IsSet (λ shard. new_bits) at bit
  set_later at bit set =
      omega (arith, set, later.stays at.word bit, bit_at-lt (slice_index new_bits at.word) bit)

  gone_later : (what : Wanted) → IsGone (λ shard. bits) what → IsGone (λ shard. new_bits) what
  gone_later (wanted.Bit at bit) gone = set_later at bit gone
  gone_later (wanted.Units purse need) gone = gone

  at_most : {a b c : ℕ} → a ≤ b → c ≤ a → c ≤ b
  at_most low falls = omega (arith, low, falls)

  missed_later : (what : Wanted) (seen need : ℕ) → IsMissed plan (λ shard. purses) what seen need
      → IsMissed plan (λ shard. new_purses) what seen need
  missed_later (wanted.Bit at bit) seen need missed = missed
  missed_later (wanted.Units purse amount) seen need missed =
      let short = missed.1 in
      let low = short.low in
      (missed.0, record { short = short.short; low = at_most low (later.falls purse.word); opening = short.opening })

  closes_later : (tx : Tx) (of : Outcome) → Closes parts plan (λ shard. purses) (λ shard. bits) tx of
      → Closes parts plan (λ shard. new_purses) (λ shard. new_bits) tx of
  closes_later tx outcome.Accepted closes = closes
  closes_later tx (outcome.Static why) closes = closes
  closes_later tx outcome.SeqTaken closes =
      let at = number_spot parts plan tx in (closes.0, set_later at.0 at.1 closes.1)
  closes_later tx outcome.OfferTaken closes =
      (closes.0, closes.1, gone_later (wanted_of parts plan tx) closes.2)
  closes_later tx outcome.NameTaken closes = (closes.0, closes.1, gone_later (wanted_of parts plan tx) closes.2)
  closes_later tx (outcome.Overdraft seen need) closes =
      (closes.0, missed_later (wanted_of parts plan tx) seen need closes.1)

  pub keeps_later : (claims : List Claim) (part : List Tx) (actor : Actor)
      → ActorKeeps parts plan purses bits claims part actor
      → ActorKeeps parts plan new_purses new_bits claims part actor
  keeps_later claims part actor keeps = record {
    decided = keeps.decided;
    whole = keeps.whole;
    closes =
        decided_map (Closes parts plan (λ shard. purses) (λ shard. bits))
        (Closes parts plan (λ shard. new_purses) (λ shard. new_bits)) closes_later keeps.decided actor.done
        keeps.closes;
    has = keeps.has;
    first = keeps.first;
  }
