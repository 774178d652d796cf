use Rattle.std.proofs.Common.{List, ℕ, ◌++◌}
use Rattle.byteorder.specs.Endian.{big_bytes}
use Rattle.sx_bytes.proofs.Written.{written_then}
use Rattle.sx_block.proofs.header_writing.put_trade.Goals as goal

pub returns-clause-ok : goal.returns-clause-ok
returns-clause-ok c =
    let r = c.put_u128.result in
    let new = c.put_u128.new.self in
    let value : List ℕ = big_bytes 16 c.args.value in
    let buy : List ℕ = big_bytes 1 c.args.buy in
    written_then r c.args.to.now (big_bytes 1 c.args.sell) c.put_u8.new.self (buy ++ value) new
    c.in_ok-put_u8.ensures.ok
    (written_then r c.put_u8.new.self buy c.put_u8-2.new.self value new c.in_ok-put_u8-2.ensures.ok
    c.put_u128.ensures.ok)
