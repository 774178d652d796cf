use Rattle.std.proofs.Common.{◌≡◌, ◌<◌, ◌≤◌, ℕ, ℤ, length, get_or}
use Rattle.sx_demand.specs.Table.{net_in, out_in, volume_in}
use Rattle.sx_demand.proofs.sums.write_excess.Given as goal

abbrev pub invariant-loop-asset : goal.invariant-loop-asset
invariant-loop-asset l = record {
  nets : (k : ℕ) (d : ℤ) → k < l.asset → get_or l.nets k d ≡ net_in l.entries (length l.fn.nets) k;
  volumes : (k d : ℕ) → k < l.asset → get_or l.volumes k d ≡ volume_in l.entries (length l.fn.nets) k;
  left : (k d : ℕ) → l.asset ≤ k → k < length l.fn.nets → get_or l.volumes k d ≡ out_in l.entries (length l.fn.nets) k;
}
