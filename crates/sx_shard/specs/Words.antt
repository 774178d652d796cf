-- Where the purse words and the bit words stand in a table: word 0 is 0, then come the purses, then the bits.
use Rattle.std.specs.Prelude.{ℕ, ◌+◌, List, take, drop}

-- the purse words of a table with this number of purses
abbrev pub purses_in : ℕ → List ℕ → List ℕ
purses_in purses words = take purses (drop 1 words)

-- its bit words
abbrev pub bits_in : ℕ → List ℕ → List ℕ
bits_in purses words = drop (1 + purses) words
