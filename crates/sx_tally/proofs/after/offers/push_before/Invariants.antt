use Rattle.std.proofs.Common.{◌≡◌, ◌++◌, ◌+◌, drop, take}
use Rattle.sx_tally.specs.Merging.{count_before}
use Rattle.sx_tally.proofs.after.offers.push_before.Given as goal

abbrev pub invariant-loop-count : goal.invariant-loop-count
invariant-loop-count l = record {
  pushed : l.all.items ≡ l.fn.all.items ++ take l.count l.made;
  counted : l.count + count_before l.offer (drop l.count l.made) ≡ count_before l.offer l.made;
}
