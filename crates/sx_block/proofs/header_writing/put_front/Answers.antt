use Rattle.std.proofs.Common.{List, ℕ, ◌++◌}
use Rattle.byteorder.specs.Endian.{big_bytes}
use Rattle.sx_bytes.proofs.Written.{written_then}
use Rattle.sx_block.proofs.header_writing.put_front.Goals as goal

pub returns-clause-ok : goal.returns-clause-ok
returns-clause-ok c =
    let r = c.put_u8-2.result in
    let new = c.put_u8-2.new.self in
    let h = c.args.header.now in
    let mu : List ℕ = big_bytes 1 h.mu in
    let from_body : List ℕ = h.body ++ mu in
    let from_parent : List ℕ = h.parent ++ from_body in
    written_then r c.args.to.now (big_bytes 1 h.version) c.put_u8.new.self (big_bytes 8 h.height ++ from_parent) new
    c.in_ok-put_u8.ensures.ok
    (written_then r c.put_u8.new.self (big_bytes 8 h.height) c.put_u64.new.self from_parent new
    c.in_ok-put_u64.ensures.ok
    (written_then r c.put_u64.new.self h.parent c.raw.new.self from_body new
    (rw c.bytes.ensures at c.in_ok-raw.ensures.ok)
    (written_then r c.raw.new.self h.body c.raw-2.new.self mu new (rw c.bytes-2.ensures at c.in_ok-raw-2.ensures.ok)
    (rw c.get.ensures.value at c.put_u8-2.ensures.ok))))
