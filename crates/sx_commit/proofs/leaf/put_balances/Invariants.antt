use Rattle.std.proofs.Common.{◌≡◌, ◌+◌, ◌*◌, ◌++◌, length, take}
use Rattle.std.specs.List.{flat_map}
use Rattle.byteorder.specs.Endian.{big_bytes}
use Rattle.sx_commit.proofs.leaf.put_balances.Given as goal

abbrev pub invariant-loop-units : goal.invariant-loop-units
invariant-loop-units l =
    record {
      end : l.end ≡ l.place + 8 * l.units-index;
      length : length l.text ≡ length l.fn.text;
      bytes : take l.end l.text ≡ take l.place l.fn.text ++ flat_map (big_bytes 8) (take l.units-index l.balances);
    }
