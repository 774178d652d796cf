use Rattle.std.proofs.Common.{◌≡◌, take, drop, vec_len, vec_capacity}
use Rattle.std.specs.Mem.Slots.{slots_items}
use Rattle.sx_shard.proofs.close.copied.Given as goal

-- the words so far, and room for the others
abbrev pub invariant-loop-place : goal.invariant-loop-place
invariant-loop-place l =
    (l.words.items ≡ take l.place (drop l.from (slots_items l.closed.words))) × (vec_len l.words ≡ l.place)
    × (vec_capacity l.words ≡ vec_capacity l.fn.words)
