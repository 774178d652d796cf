use Rattle.std.proofs.Common.{List, ℕ, ◌++◌, length}
use Rattle.std.specs.List.{flat_map}
use Rattle.byteorder.specs.Endian.{big_bytes}
use Rattle.sx_bytes.proofs.Written.{written_then}
use Rattle.sx_commit.specs.Encoding.{digest_bytes}
use Rattle.sx_state.specs.Encoding.{account_bytes}
use Rattle.sx_commit.proofs.proof_writing.put_fields.Goals as goal

pub returns-clause-ok : goal.returns-clause-ok
returns-clause-ok c =
    let r = c.put_siblings.result in
    let new = c.put_siblings.new.to in
    let proof = c.args.proof.now in
    let siblings : List ℕ = flat_map digest_bytes proof.siblings in
    let account : List ℕ = account_bytes proof.version proof.account in
    let place : List ℕ = big_bytes 4 proof.place in
    let count : List ℕ = big_bytes 1 (length proof.account.balances) in
    written_then r c.args.to.now (big_bytes 1 proof.version) c.put_u8.new.self
    (count ++ (place ++ (account ++ siblings))) new c.in_ok-put_u8.ensures.ok
    (written_then r c.put_u8.new.self count c.put_u8-2.new.self (place ++ (account ++ siblings)) new
    (rw c.items.ensures at c.in_ok-put_u8-2.ensures.ok)
    (written_then r c.put_u8-2.new.self place c.put_u32.new.self (account ++ siblings) new
    c.in_ok-put_u32.ensures.ok
    (written_then r c.put_u32.new.self account c.write_account.new.to siblings new
    c.in_ok-write_account.ensures.ok (rw c.items-2.ensures at c.put_siblings.ensures.ok))))
