use Rattle.std.proofs.Common.{List, ℕ, ◌++◌}
use Rattle.byteorder.specs.Endian.{big_bytes}
use Rattle.sx_bytes.proofs.Written.{written_then}
use Rattle.sx_tx.proofs.writing.put_terms.Goals as goal

pub returns-clause-ok : goal.returns-clause-ok
returns-clause-ok c =
    let r = c.put_u64-2.result in
    let new = c.put_u64-2.new.self in
    let last : List ℕ = big_bytes 8 c.args.last in
    let limit : List ℕ = big_bytes 8 c.args.limit in
    let buy : List ℕ = big_bytes 1 c.args.buy in
    let sell : List ℕ = big_bytes 1 c.args.sell in
    written_then r c.args.to.now (big_bytes 1 c.args.kind) c.put_u8.new.self (sell ++ (buy ++ (limit ++ last))) new
    c.in_ok-put_u8.ensures.ok
    (written_then r c.put_u8.new.self sell c.put_u8-2.new.self (buy ++ (limit ++ last)) new
    (rw c.get.ensures.value at c.in_ok-put_u8-2.ensures.ok)
    (written_then r c.put_u8-2.new.self buy c.put_u8-3.new.self (limit ++ last) new
    (rw c.get-2.ensures.value at c.in_ok-put_u8-3.ensures.ok)
    (written_then r c.put_u8-3.new.self limit c.put_u64.new.self last new
    (rw c.get-3.ensures.value at c.in_ok-put_u64.ensures.ok) c.put_u64-2.ensures.ok)))
