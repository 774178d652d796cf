use Rattle.std.proofs.Common.{◌≡◌, ℕ, ◌/◌, ◌^◌, ◌<◌, ◌≤◌, length, slice_index}
use Rattle.sx_ledger.specs.Buckets.{AreBegins}
use Rattle.sx_ledger.proofs.index.begins_of.Given as goal

abbrev pub invariant-loop-bucket : goal.invariant-loop-bucket
invariant-loop-bucket l =
    (l.begin ≤ length l.entries)
    × ((k : ℕ) → k < l.begin → slice_index l.entries k / 2 ^ l.shift < l.bucket)
    × (length l.begins.items ≡ l.bucket)
    × AreBegins l.entries l.shift l.begins.items
