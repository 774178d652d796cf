-- How many searches what pairs trade takes at most.
use Rattle.std.specs.Prelude.{ℕ}

-- twice the most of a circulation of 32 assets, with values of at most 2 ^ 102, so of 103 digits
abbrev pub most_clearing_searches : ℕ
most_clearing_searches = 29000400
