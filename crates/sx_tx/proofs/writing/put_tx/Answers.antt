use Rattle.std.proofs.Common.{List, ℕ, ◌++◌}
use Rattle.byteorder.specs.Endian.{big_bytes}
use Rattle.sx_bytes.proofs.Written.{written_then}
use Rattle.sx_tx.specs.Transactions.{kind_bytes}
use Rattle.sx_tx.proofs.writing.put_tx.Goals as goal

pub returns-clause-ok : goal.returns-clause-ok
returns-clause-ok c =
    let r = c.put_kind.result in
    let tx = c.args.tx.now in
    let kind : List ℕ = kind_bytes tx.kind in
    written_then r c.args.to.now (big_bytes 8 tx.account.0) c.put_u64.new.self (big_bytes 8 tx.seq ++ kind)
    c.put_kind.new.to c.in_ok-put_u64.ensures.ok
    (written_then r c.put_u64.new.self (big_bytes 8 tx.seq) c.put_u64-2.new.self kind c.put_kind.new.to
    (rw c.get.ensures.value at c.in_ok-put_u64-2.ensures.ok) c.put_kind.ensures.ok)
