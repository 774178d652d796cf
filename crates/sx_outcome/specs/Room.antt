-- Whether a ledger has room for all that candidates ask for.
use Rattle.std.specs.Prelude.{ℕ, ◌+◌, List, length, Result, Ok, Err, nat_lt, ◌==◌, if◌then◌else◌}
use Rattle.sx_outcome.specs.declared.space.NoRoom.{NoRoom}
use Rattle.sx_outcome.specs.declared.space.NoRoom.TheVariants.{Ended, Crowded}
use Rattle.sx_ledger.specs.declared.parts.Parts.{Parts}
use Rattle.sx_ledger.specs.Body.{created, made}
use Rattle.sx_ledger.specs.Ledger.{most_accounts, most_height, most_offers}
use Rattle.sx_tx.specs.declared.tx.Tx.{Tx}

-- No block may follow at the greatest height. Else so many more accounts have to fit beside those that are there, and
-- else so many more offers.
abbrev pub room_for_more : Parts → ℕ → ℕ → Result (Unit {0}) NoRoom
room_for_more parts more_accounts more_offers =
    let accounts = length parts.accounts in
    let offers = length parts.offers in
    if parts.height == most_height then Err Ended else
    (if nat_lt most_accounts (accounts + more_accounts) then Err (Crowded accounts more_accounts most_accounts) else
    (if nat_lt most_offers (offers + more_offers) then Err (Crowded offers more_offers most_offers) else Ok tt))

-- the same for all accounts that candidates create, and all offers that they make
abbrev pub room_for : Parts → List Tx → Result (Unit {0}) NoRoom
room_for parts candidates = room_for_more parts (length (created candidates)) (length (made candidates))
