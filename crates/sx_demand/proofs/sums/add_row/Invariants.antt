use Rattle.std.proofs.Common.{◌≡◌, ◌+◌, ◌*◌, ◌<◌, ◌≤◌, ◌^◌, ℕ, get_or}
use Rattle.sx_demand.specs.Table.{into_in, out_in}
use Rattle.sx_demand.proofs.sums.add_row.Given as goal

abbrev pub invariant-loop-buy : goal.invariant-loop-buy
invariant-loop-buy l = record {
  row : l.row ≡ out_in l.entries l.buy l.sell;
  bound : l.row ≤ l.buy * 2 ^ 102;
  done : (k d : ℕ) → k < l.buy → get_or l.columns k d ≡ into_in l.entries (l.sell + 1) k;
  left : (k d : ℕ) → l.buy ≤ k → k < l.assets → get_or l.columns k d ≡ into_in l.entries l.sell k;
}
