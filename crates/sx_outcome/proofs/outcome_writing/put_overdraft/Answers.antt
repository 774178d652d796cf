use Rattle.std.proofs.Common.{List, ℕ, ◌++◌}
use Rattle.byteorder.specs.Endian.{big_bytes}
use Rattle.sx_bytes.proofs.Written.{written_then}
use Rattle.sx_outcome.proofs.outcome_writing.put_overdraft.Goals as goal

pub returns-clause-ok : goal.returns-clause-ok
returns-clause-ok c =
    let r = c.put_u64-2.result in
    let seen : List ℕ = big_bytes 8 c.args.seen in
    let need : List ℕ = big_bytes 8 c.args.need in
    written_then r c.args.to.now (big_bytes 1 5) c.put_u8.new.self (seen ++ need) c.put_u64-2.new.self
    c.in_ok-put_u8.ensures.ok
    (written_then r c.put_u8.new.self seen c.put_u64.new.self need c.put_u64-2.new.self c.in_ok-put_u64.ensures.ok
    c.put_u64-2.ensures.ok)
