-- The ids of the accounts that candidates create.
use Rattle.std.specs.Prelude.{ℕ, List, [], ◌∷◌, nat_lt, ◌==◌, if◌then◌else◌}
use Rattle.sx_ledger.specs.Body.{created}
use Rattle.sx_tx.specs.declared.tx.Tx.{Tx}

-- a number put in its place among numbers that rise, unless it is there
abbrev pub put_once : ℕ → List ℕ → List ℕ
put_once id [] = id ∷ []
put_once id (other ∷ others) =
    if id == other then other ∷ others else
    (if nat_lt id other then id ∷ other ∷ others else other ∷ put_once id others)

-- the numbers of a list in order, each once
abbrev pub each_once : List ℕ → List ℕ
each_once [] = []
each_once (id ∷ ids) = put_once id (each_once ids)

-- the new ids, in order, each once
abbrev pub new_ids : List Tx → List ℕ
new_ids candidates = each_once (created candidates)
