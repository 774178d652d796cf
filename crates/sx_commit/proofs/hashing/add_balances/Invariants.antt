use Rattle.std.proofs.Common.{ℕ, List, ◌++◌, take}
use Rattle.std.specs.List.{flat_map}
use Rattle.byteorder.specs.Endian.{big_bytes}
use Rattle.sha2.specs.Hashers.{Holds256}
use Rattle.sx_commit.proofs.hashing.add_balances.Given as goal

abbrev pub invariant-loop-units : goal.invariant-loop-units
invariant-loop-units l =
    (m : List ℕ) → Holds256 l.fn.hasher m
    → Holds256 l.hasher (m ++ flat_map (big_bytes 8) (take l.units-index l.balances))
