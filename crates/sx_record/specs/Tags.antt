-- The tags of records: what a payload holds.
use Rattle.std.specs.Prelude.{ℕ}

abbrev pub state_tag : ℕ
state_tag = 1

abbrev pub candidates_tag : ℕ
candidates_tag = 2

abbrev pub block_tag : ℕ
block_tag = 3

abbrev pub outcomes_tag : ℕ
outcomes_tag = 4

abbrev pub script_tag : ℕ
script_tag = 5

abbrev pub proof_tag : ℕ
proof_tag = 6
