use Rattle.std.proofs.Common.{List, ℕ, ◌++◌}
use Rattle.std.specs.List.{flat_map}
use Rattle.byteorder.specs.Endian.{big_bytes}
use Rattle.sx_bytes.proofs.Written.{written_then}
use Rattle.sx_block.proofs.header_writing.put_outcome.Goals as goal

pub returns-clause-ok : goal.returns-clause-ok
returns-clause-ok c =
    let r = c.raw.result in
    let new = c.raw.new.self in
    let h = c.args.header.now in
    let rounding : List ℕ = flat_map (big_bytes 8) h.rounding in
    written_then r c.args.to.now (flat_map (big_bytes 4) h.potentials) c.put_potentials.new.to (rounding ++ h.after)
    new (rw c.items.ensures.items at c.in_ok-put_potentials.ensures.ok)
    (written_then r c.put_potentials.new.to rounding c.put_rounding.new.to h.after new
    (rw c.items-2.ensures at c.in_ok-put_rounding.ensures.ok)
    (rw c.bytes.ensures at c.raw.ensures.ok))
