-- Small passes, submits and faults, computed.
use Rattle.std.proofs.Common.{◌≡◌, ℕ, ◌≤◌, List, [], ◌∷◌, ◌++◌, map, All, Ok, Err, refl, ap, arith}
use Rattle.std.proofs.lemmas.List.Elements.{All-from_recursion}
use Rattle.sx_event.specs.declared.marks.Claim.TheVariants.{Bit, Debit}
use Rattle.sx_event.specs.declared.marks.Note.{Note}
use Rattle.sx_event.specs.declared.marks.Note.TheVariants.{Low, Set}
use Rattle.sx_event.specs.View.{View, opened, spent}
use Rattle.sx_layout.specs.declared.asked.Wanted.TheVariants as wanted
use Rattle.sx_outcome.specs.declared.outcome.Outcome.TheVariants as outcome
use Rattle.sx_outcome.specs.declared.space.NoRoom.TheVariants as no_room
use Rattle.sx_layout.specs.declared.spot.Spot.{Spot}
use Rattle.sx_layout.specs.Plan.{Plan}
use Rattle.sx_ledger.specs.declared.parts.Parts.{Parts}
use Rattle.sx_ledger.specs.declared.statics.Static.{Static}
use Rattle.sx_ledger.specs.Static.{static_of}
use Rattle.sx_shard.specs.Models.{Seated, Shown}
use Rattle.sx_tx.specs.declared.tx.Tx.{Tx}
use Rattle.sx_gather.specs.Passes.{decided, view_at}
use Rattle.sx_gather.specs.declared.fault.GatherFault.TheVariants as fault
use Rattle.sx_gather.specs.Start.{IsFaultOf, fault_of}
use Rattle.sx_gather.specs.Submit.{Found, FoundLow, FoundSet, FoundShort, grown}

module _ (parts : Parts) (plan : Plan) (shards : List Shown) (seats : List Seated) (a b c d : Tx) where
  -- a pass of the second to the fourth of four candidates has decided two of them
  two_decided : decided
      (record { parts = parts; candidates = a ∷ b ∷ c ∷ d ∷ []; plan = plan; shards = shards })
      (record {
        from = 1;
        next = 3;
        end = 4;
        outcomes = outcome.Accepted ∷ outcome.SeqTaken ∷ [];
        spare = 1;
        seats = seats;
      })
      ≡ record { tx = b; outcome = outcome.Accepted } ∷ record { tx = c; outcome = outcome.SeqTaken } ∷ []
  two_decided = refl

module _ (one other : Seated) where
  -- the view of the seat at a shard, and none past the last
  second_view : view_at (one ∷ other ∷ []) 1 ≡ other.view
  second_view = refl

  no_view : view_at (one ∷ other ∷ []) 2 ≡ spent
  no_view = refl

-- a view that has seen 40 units, then claims a bit, takes 10 units and sees another bit set
abbrev seen : View
seen = record (opened 3 5) { notes = Low 2 40 ∷ [] }

two_more : grown seen (Bit 1 7 ∷ Debit 2 10 ∷ []) (Set 1 8 ∷ [])
    ≡ record {
      live = seen.live;
      from = 3;
      end = 5;
      claims = Bit 1 7 ∷ Debit 2 10 ∷ [];
      notes = Low 2 40 ∷ Set 1 8 ∷ [];
    }
two_more = refl

-- ---- what one submit found

-- no candidate that the ledger refuses is accepted, and none that passes is refused by it
module _ (parts : Parts) (plan : Plan) (notes : ℕ → List Note) (tx : Tx) (why : Static) where
  not_accepted : static_of parts tx ≡ Err why → Found parts plan notes tx outcome.Accepted → ⊥
  not_accepted refused found = absurd cc

  not_static : static_of parts tx ≡ Ok tt → Found parts plan notes tx (outcome.Static why) → ⊥
  not_static passes found = absurd cc

-- the notes of a call that found bit 8 of word 3 set, or a purse at 70 and then at 40, all at one shard
abbrev one_set : ℕ → List Note
one_set shard = Set 3 8 ∷ []

abbrev two_lows : ℕ → List Note
two_lows shard = Low 3 70 ∷ Low 3 40 ∷ []

abbrev spot : Spot
spot = record { shard = 1; word = 3 }

bit_found : FoundSet one_set spot 8
bit_found = refl

other_bit : FoundSet one_set spot 9 → ⊥
other_bit found = absurd cc

-- 60 units were wanted. The call saw 70, lost a take, and saw 40
low_found : FoundShort two_lows (wanted.Units spot 60) 40 60
low_found = (
  refl,
  record {
    earlier = 70 ∷ [];
    finds = record {
      falls = (omega arith, tt);
      enough = All-from_recursion (λ (value : ℕ). 60 ≤ value) (70 ∷ []) (omega arith, tt);
    };
    short = omega arith;
    notes_are = refl;
  },
)

-- 50 is too little too, so the call would have ended with it, and not seen 40 after it
abbrev after_low : ℕ → List Note
after_low shard = Low 3 50 ∷ Low 3 40 ∷ []

abbrev first_value : List Note → ℕ
first_value [] = 0
first_value (Low purse value ∷ notes) = value
first_value (Set word bit ∷ notes) = 0

not_after_low : FoundLow after_low spot 40 60 → ⊥
not_after_low low = by low.earlier low.finds.enough low.notes_are
  where
    by : (earlier : List ℕ) → All (λ value. 60 ≤ value) earlier → after_low 1 ≡ map (Low 3) (earlier ++ 40 ∷ []) → ⊥
    by [] enough is =
        let last : ℕ = 40 in
        let first : 50 ≡ last = ap first_value is in
        omega (arith, first)
    by (value ∷ rest) enough is =
        let first : 50 ≡ value = ap first_value is in
        let more : 60 ≤ value = enough 0 0 (omega arith) in
        omega (arith, first, more)

-- what is enough is not too little, and units are not a bit
enough_found : FoundLow two_lows spot 60 60 → ⊥
enough_found low = omega (arith, low.short)

bit_is_not_short : FoundShort two_lows (wanted.Bit spot 8) 40 60 → ⊥
bit_is_not_short found = found

-- ---- why a gathering does not start

ended : fault_of no_room.Ended ≡ fault.Ended
ended = refl

crowded : fault_of (no_room.Crowded 3 2 4) ≡ fault.Crowded 3 2 4
crowded = refl

crowded_is_why : IsFaultOf (Err (no_room.Crowded 3 2 4)) (fault.Crowded 3 2 4)
crowded_is_why = refl

-- not in another order, and not where there is room
crowded_otherwise : IsFaultOf (Err (no_room.Crowded 3 2 4)) (fault.Crowded 2 3 4) → ⊥
crowded_otherwise why = absurd cc

not_crowded : IsFaultOf (Ok tt) (fault.Crowded 3 2 4) → ⊥
not_crowded why = absurd cc

not_ended : IsFaultOf (Ok tt) fault.Ended → ⊥
not_ended why = absurd cc

not_the_end : IsFaultOf (Err (no_room.Crowded 3 2 4)) fault.Ended → ⊥
not_the_end why = absurd cc
