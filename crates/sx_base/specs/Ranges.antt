-- The ranges of amounts, sequence numbers and assets.
use Rattle.std.specs.Prelude.{ℕ, ◌-◌, ◌^◌}

-- the greatest amount, in units of its asset
abbrev pub most_amount : ℕ
most_amount = 2 ^ 62

-- the last sequence number
abbrev pub most_seq : ℕ
most_seq = 2 ^ 63 - 1

-- how many assets there may be; their numbers are below this
abbrev pub most_assets : ℕ
most_assets = 32
