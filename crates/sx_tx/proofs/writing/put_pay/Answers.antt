use Rattle.std.proofs.Common.{List, ℕ, ◌++◌}
use Rattle.byteorder.specs.Endian.{big_bytes}
use Rattle.sx_bytes.proofs.Written.{written_then}
use Rattle.sx_tx.proofs.writing.put_pay.Goals as goal

pub returns-clause-ok : goal.returns-clause-ok
returns-clause-ok c =
    let r = c.put_u64-2.result in
    let amount : List ℕ = big_bytes 8 c.args.amount in
    let asset : List ℕ = big_bytes 1 c.args.asset in
    let payee : List ℕ = big_bytes 8 c.args.payee.0 in
    written_then r c.args.to.now (big_bytes 1 1) c.put_u8.new.self (payee ++ (asset ++ amount)) c.put_u64-2.new.self
    c.in_ok-put_u8.ensures.ok
    (written_then r c.put_u8.new.self payee c.put_u64.new.self (asset ++ amount) c.put_u64-2.new.self
    c.in_ok-put_u64.ensures.ok
    (written_then r c.put_u64.new.self asset c.put_u8-2.new.self amount c.put_u64-2.new.self
    (rw c.get.ensures.value at c.in_ok-put_u8-2.ensures.ok)
    (rw c.get-2.ensures.value at c.put_u64-2.ensures.ok)))
