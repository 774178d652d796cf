-- The laws of the demonstration.
use Rattle.std.specs.Prelude.{◌≡◌, ℕ, length}
use Rattle.std.specs.List.{All}
use Rattle.sx_gen.specs.Candidates.{demo_txs}
use Rattle.sx_tx.specs.Transactions.{IsTx}

-- there are 5,000 candidates
abbrev pub HasAllCandidates : Type 0
HasAllCandidates = (number : ℕ) → length (demo_txs number) ≡ 5000

-- each candidate is within the ranges of a transaction
abbrev pub DrawsInRange : Type 0
DrawsInRange = (number : ℕ) → All IsTx (demo_txs number)
