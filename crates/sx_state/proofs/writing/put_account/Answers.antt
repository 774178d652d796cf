use Rattle.std.proofs.Common.{List, ℕ, ◌++◌}
use Rattle.std.specs.List.{flat_map}
use Rattle.byteorder.specs.Endian.{big_bytes}
use Rattle.sx_bytes.proofs.Written.{written_then}
use Rattle.sx_state.specs.Encoding.{window_bytes}
use Rattle.sx_state.proofs.writing.put_account.Goals as goal

pub returns-clause-ok : goal.returns-clause-ok
returns-clause-ok c =
    let r = c.put_units.result in
    let account = c.args.account.now in
    let balances : List ℕ = flat_map (big_bytes 8) account.balances in
    let window : List ℕ = window_bytes c.args.version account.window in
    written_then r c.args.to.now (big_bytes 8 account.id.0) c.put_u64.new.self
    (window ++ balances) c.put_units.new.to c.in_ok-put_u64.ensures.ok
    (written_then r c.put_u64.new.self window c.put_window.new.to balances c.put_units.new.to
    c.in_ok-put_window.ensures.ok (rw c.items.ensures at c.put_units.ensures.ok))
