use Rattle.std.proofs.Common.{List, ℕ, ◌++◌}
use Rattle.byteorder.specs.Endian.{big_bytes}
use Rattle.sx_bytes.proofs.Written.{written_then}
use Rattle.sx_state.proofs.writing.put_offer.Goals as goal

pub returns-clause-ok : goal.returns-clause-ok
returns-clause-ok c =
    let r = c.put_u64-4.result in
    let new = c.put_u64-4.new.self in
    let offer = c.args.offer.now in
    let from_amount : List ℕ = big_bytes 8 offer.amount in
    let from_seq : List ℕ = big_bytes 8 offer.seq ++ from_amount in
    let from_account : List ℕ = big_bytes 8 offer.account.0 ++ from_seq in
    let from_limit : List ℕ = big_bytes 8 offer.limit ++ from_account in
    let from_buy : List ℕ = big_bytes 1 offer.buy ++ from_limit in
    written_then r c.args.to.now (big_bytes 1 offer.sell) c.put_u8.new.self from_buy new
    (rw c.get.ensures.value at c.in_ok-put_u8.ensures.ok)
    (written_then r c.put_u8.new.self (big_bytes 1 offer.buy) c.put_u8-2.new.self from_limit new
    (rw c.get-2.ensures.value at c.in_ok-put_u8-2.ensures.ok)
    (written_then r c.put_u8-2.new.self (big_bytes 8 offer.limit) c.put_u64.new.self from_account new
    (rw c.get-3.ensures.value at c.in_ok-put_u64.ensures.ok)
    (written_then r c.put_u64.new.self (big_bytes 8 offer.account.0)
    c.put_u64-2.new.self from_seq new c.in_ok-put_u64-2.ensures.ok
    (written_then r c.put_u64-2.new.self (big_bytes 8 offer.seq) c.put_u64-3.new.self from_amount new
    (rw c.get-4.ensures.value at c.in_ok-put_u64-3.ensures.ok)
    (rw c.get-5.ensures.value at c.put_u64-4.ensures.ok)))))
