use Rattle.std.proofs.Common.{◌≡◌, ◌≤◌, ◌+◌, ◌-◌, ◌++◌, length, map, take}
use Rattle.std.specs.List.Sorted.{IsPermutation}
use Rattle.sx_tally.specs.Accounts.{fresh}
use Rattle.sx_tally.proofs.Places.{parts}
use Rattle.sx_tally.proofs.after.created.merge_new.Given as goal

abbrev pub invariant-loop-filled : goal.invariant-loop-filled
invariant-loop-filled l = record {
  free : l.left + l.filled ≤ length l.accounts;
  fewer : l.left ≤ length l.ids;
  same : length l.accounts ≡ length l.fn.accounts;
  moves : IsPermutation (take (length l.fn.accounts - length l.ids) l.fn.accounts ++ map (fresh l.assets) l.ids)
      (parts l.accounts (length l.accounts - l.filled - l.left) (map (fresh l.assets) (take l.left l.ids))
      (length l.accounts - l.filled));
}
