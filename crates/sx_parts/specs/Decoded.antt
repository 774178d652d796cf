-- Which transactions stand from one place of the bytes to another.
use Rattle.std.specs.Prelude.{◌≡◌, ℕ, List, Ok}
use Rattle.sx_bytes.specs.Grammar.{many_at}
use Rattle.sx_tx.specs.declared.tx.Tx.{Tx}
use Rattle.sx_tx.specs.TransactionDecoding.{list_at, tx_at}

-- so many transactions from a place of the bytes on are these, and end at another place
abbrev pub AreDecoded : List ℕ → ℕ → ℕ → List Tx → ℕ → Type 0
AreDecoded bytes place count txs end =
    many_at tx_at count (record { bytes = bytes; place = place }) ≡ Ok (txs, record { bytes = bytes; place = end })

-- the list from a place of the bytes on has these transactions, and ends at another place
abbrev pub IsListAt : List ℕ → ℕ → List Tx → ℕ → Type 0
IsListAt bytes place txs end =
    list_at (record { bytes = bytes; place = place }) ≡ Ok (txs, record { bytes = bytes; place = end })
