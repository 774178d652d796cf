-- What a filter answers, as what is found of its input.
use Rattle.std.proofs.Common.{◌≡◌, ℕ, List, [], ◌∷◌, Result, Ok, Err, refl}
use Rattle.sx_filter.specs.declared.fault.FilterFault.{FilterFault}
use Rattle.sx_filter.specs.declared.fault.FilterFault.TheVariants as fault
use Rattle.sx_filter.specs.Fault.{IsFaultOf, fault_of}
use Rattle.sx_input.specs.declared.stop.Stop.{Stop}
use Rattle.sx_input.specs.Found.{ConcludesAs}
use Rattle.sx_outcome.specs.declared.space.NoRoom.{NoRoom}
use Rattle.sx_outcome.specs.declared.space.NoRoom.TheVariants as no_room
use Rattle.sx_outcome.specs.Room.{room_for}
use Rattle.sx_ledger.specs.declared.parts.Parts.{Parts}
use Rattle.sx_meaning.specs.Items.{candidates, state}
use Rattle.sx_run.specs.Filtering.{IsStoppedBy}
use Rattle.sx_tx.specs.declared.tx.Tx.{Tx}
use Rattle.sx_words.specs.declared.command.Command.TheVariants.{Filter}

-- where candidates are kept, there is room for all
pub has_room : (r : Result (Unit {0}) NoRoom) (txs : List Tx)
    → ((why : NoRoom) → r ≡ Err why → ◌≡◌ {A = Result (List Tx) FilterFault} (Ok txs) (Err (fault_of why)))
    → r ≡ Ok tt
has_room (Ok tt) txs none = refl
has_room (Err why) txs none = absurd (let no = none why refl in cc)

-- where none are kept, there is no room, or memory ran out
pub stopped : (workers : ℕ) (parts : Parts) (txs : List Tx) (found : FilterFault) (why : Stop)
    → IsFaultOf (room_for parts txs) found → IsStoppedBy found why
    → ConcludesAs (Filter workers) (state parts ∷ candidates txs ∷ []) (Err why)
stopped workers parts txs fault.NoMemory why of is = rw is tt
stopped workers parts txs fault.Ended why of is =
    rw is (record { parts = parts; txs = txs; are = refl; finds = (refl, (no_room.Ended, of, refl)) })
stopped workers parts txs (fault.Crowded have more limit) why of is =
    rw is (record {
      parts = parts;
      txs = txs;
      are = refl;
      finds = (refl, (no_room.Crowded have more limit, of, refl));
    })
