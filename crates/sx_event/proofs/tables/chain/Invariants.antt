use Rattle.std.proofs.Common.{◌≡◌, map}
use Rattle.sx_event.specs.Buckets.{entry_of, AreChained}
use Rattle.sx_event.proofs.tables.chain.Given as goal

abbrev pub invariant-chain : goal.invariant-chain
invariant-chain l = (map entry_of l.log ≡ map entry_of l.initial.log) × AreChained l.heads l.log l.place
