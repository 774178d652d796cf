-- What is gathered of no candidates: no outcomes, and an empty body.
use Rattle.std.proofs.Common.{◌≡◌, ◌+◌, Bool, true, false, [], length, refl, arith}
use Rattle.std.specs.Prelude.{Err, Ok, Result, nat_lt, ◌==◌, if◌then◌else◌}
use Rattle.std.specs.List.{IsDistinct}
use Rattle.std.proofs.lemmas.Bool.{ltb-false}
use Rattle.std.proofs.lemmas.List.Elements.{All-nil}
use Rattle.std.proofs.lemmas.Option.{none-some}
use Rattle.sx_outcome.specs.declared.space.NoRoom.{NoRoom}
use Rattle.sx_outcome.specs.Gathering.{IsGathered}
use Rattle.sx_outcome.specs.Room.{room_for}
use Rattle.sx_ledger.specs.declared.parts.Parts.{Parts}
use Rattle.sx_ledger.specs.Body.{IsAdmissible}
use Rattle.sx_ledger.specs.Ledger.{most_accounts, most_height, most_offers}
use Rattle.sx_ledger.specs.Static.{static_of}
use Rattle.sx_tx.specs.declared.tx.Tx.{Tx}

-- there is room, so this is no reason against it
no_reason : (holds : Bool) (why : NoRoom) (rest : Result (Unit {0}) NoRoom)
    → (if holds then Err why else rest) ≡ Ok tt → (holds ≡ false) × (rest ≡ Ok tt)
no_reason true why rest room = absurd cc
no_reason false why rest room = (refl, room)

none_admissible : (parts : Parts) → room_for parts [] ≡ Ok tt → IsAdmissible parts []
unfolding IsDistinct
none_admissible parts room =
    let accounts = no_reason (nat_lt most_accounts (length parts.accounts + 0)) _ _
    (no_reason (parts.height == most_height) _ _ room).1 in
    let offers = no_reason (nat_lt most_offers (length parts.offers + 0)) _ _ accounts.1 in
    record {
      ordered = refl;
      passes = All-nil (λ (tx : Tx). static_of parts tx ≡ Ok tt);
      cancels_once = tt;
      creates_once = tt;
      accounts_fit = ltb-false most_accounts (length parts.accounts + 0) accounts.0;
      offers_fit = ltb-false most_offers (length parts.offers + 0) offers.0;
      covered = λ account asset. omega arith;
    }

pub none_gathered : (parts : Parts) → room_for parts [] ≡ Ok tt → IsGathered parts [] [] []
none_gathered parts room = record {
  one_each = refl;
  accepted_are = refl;
  admissible = none_admissible parts room;
  shows = λ place one stands. absurd (none-some one stands);
  once = λ i j one other stands. absurd (none-some one stands);
}
