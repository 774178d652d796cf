use Rattle.std.proofs.Common.{◌≡◌, ℕ, ◌+◌, ◌-◌, ◌<◌, ◌≤◌, length, slice_index}
use Rattle.sx_ledger.proofs.place_table.start_blocks.Given as goal

abbrev pub invariant-loop-starts : goal.invariant-loop-starts
invariant-loop-starts l =
    ((b : ℕ) → b < length l.fn.starts.items → slice_index l.starts.items b ≡ slice_index l.fn.starts.items b)
    × (length l.fn.starts.items ≤ length l.starts.items)
    × ((b : ℕ) → length l.fn.starts.items ≤ b → b < length l.starts.items
    → (slice_index l.starts.items b ≡ l.place) × (b ≤ l.block))

abbrev pub decreases-loop-starts : goal.decreases-loop-starts
decreases-loop-starts l = l.block + 1 - length l.starts.items
