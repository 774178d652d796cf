use Rattle.std.proofs.Common.{List, ℕ, ◌++◌, length}
use Rattle.byteorder.specs.Endian.{big_bytes}
use Rattle.sx_block.specs.Encoding.{front_bytes, market_bytes, outcome_bytes}
use Rattle.sx_bytes.proofs.Written.{written_then}
use Rattle.sx_block.proofs.header_writing.put_header.Goals as goal

pub returns-clause-ok : goal.returns-clause-ok
returns-clause-ok c =
    let r = c.put_outcome.result in
    let new = c.put_outcome.new.to in
    let h = c.args.header.now in
    let count : List ℕ = big_bytes 1 (length h.prices) in
    let last : List ℕ = market_bytes h ++ outcome_bytes h in
    written_then r c.args.to.now (front_bytes h) c.put_front.new.to (count ++ last) new c.in_ok-put_front.ensures.ok
    (written_then r c.put_front.new.to count c.put_u8.new.self last new
    (rw c.items.ensures at c.in_ok-put_u8.ensures.ok)
    (written_then r c.put_u8.new.self (market_bytes h) c.put_market.new.to (outcome_bytes h) new
    c.in_ok-put_market.ensures.ok c.put_outcome.ensures.ok))
