-- Candidates by classes of accounts, such as ranges.
use Rattle.std.specs.Prelude.{ℕ, Bool, List, nat_le, ◌==◌}
use Rattle.std.specs.List.{count_by}
use Rattle.sx_tx.specs.declared.tx.Tx.{Tx}

-- in which range an account lies: how many of the cuts are not above it
abbrev pub range_among : List ℕ → ℕ → ℕ
range_among cuts account = count_by (λ cut. nat_le cut account) cuts

-- whether the account of a candidate is of a class
abbrev pub is_at : (ℕ → ℕ) → ℕ → Tx → Bool
is_at class_of class tx = class_of tx.account.0 == class

abbrev pub is_in : List ℕ → ℕ → Tx → Bool
is_in cuts range tx = is_at (range_among cuts) range tx
