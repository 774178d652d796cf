-- Things that are dealt out to shards in turn: thing i goes to shard i mod shards.
use Rattle.std.specs.Prelude.{ℕ, zero, suc, ◌+◌, ◌-◌, ◌/◌, List, [], ◌∷◌, map}
use Rattle.std.specs.List.{range_with_len}

-- how many of n things a shard has
abbrev pub share_of : ℕ → ℕ → ℕ → ℕ
share_of shards shard n = (n + (shards - 1 - shard)) / shards

-- the first thing after those that are passed over, and from there on every `shards`-th
abbrev pub dealt : {X : Type 0} → ℕ → ℕ → List X → List X
dealt shards passed [] = []
dealt shards zero (x ∷ xs) = x ∷ dealt shards (shards - 1) xs
dealt shards (suc passed) (x ∷ xs) = dealt shards passed xs

-- how many words of 64 bits hold n bits
abbrev pub words_for : ℕ → ℕ
words_for n = (n + 63) / 64

-- a list with an entry for each of n shards
abbrev pub for_each_shard : {X : Type 0} → (ℕ → X) → ℕ → List X
for_each_shard entry n = map entry (range_with_len 0 n)
