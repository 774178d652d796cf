use Rattle.std.proofs.Common.{◌≡◌, List, ℕ, ◌++◌, length, take_all, arith}
use Rattle.std.specs.List.{flat_map}
use Rattle.std.proofs.lemmas.Result.{on_err_weaker}
use Rattle.byteorder.specs.Endian.{big_bytes}
use Rattle.sx_bytes.specs.Written.{Begins}
use Rattle.sx_bytes.proofs.Written.{begins_since, written_then}
use Rattle.sx_state.proofs.writing.put_opening.Goals as goal

pub returns-clause-err : goal.returns-clause-err
returns-clause-err c =
    let new = c.put_u32.new.self in
    let before = c.put_units.new.to in
    on_err_weaker c.put_u32.result (λ (same : new ≡ before).
    let later : Begins before new = rw same (take_all (length before) before (omega arith)) in
    begins_since _ _ _ new c.in_ok-put_u8.ensures.ok
    (begins_since _ _ _ new c.in_ok-put_u64.ensures.ok (begins_since _ _ _ new c.in_ok-put_u8-2.ensures.ok
    (begins_since _ _ _ new c.in_ok-put_prices.ensures.ok
    (begins_since _ _ _ new c.in_ok-put_units.ensures.ok later))))) c.put_u32.ensures.err

pub returns-clause-ok : goal.returns-clause-ok
returns-clause-ok c =
    let r = c.put_u32.result in
    let new = c.put_u32.new.self in
    let parts = c.args.parts.now in
    let count : List ℕ = big_bytes 4 (length parts.accounts) in
    let from_rounding : List ℕ = flat_map (big_bytes 8) parts.rounding ++ count in
    let from_prices : List ℕ = flat_map (big_bytes 8) parts.prices ++ from_rounding in
    let from_assets : List ℕ = big_bytes 1 (length parts.prices) ++ from_prices in
    let from_height : List ℕ = big_bytes 8 parts.height ++ from_assets in
    written_then r c.args.to.now (big_bytes 1 parts.version)
    c.put_u8.new.self from_height new c.in_ok-put_u8.ensures.ok
    (written_then r c.put_u8.new.self (big_bytes 8 parts.height)
    c.put_u64.new.self from_assets new c.in_ok-put_u64.ensures.ok
    (written_then r c.put_u64.new.self (big_bytes 1 (length parts.prices)) c.put_u8-2.new.self from_prices new
    (rw c.items.ensures at c.in_ok-put_u8-2.ensures.ok)
    (written_then r c.put_u8-2.new.self (flat_map (big_bytes 8) parts.prices) c.put_prices.new.to from_rounding new
    (rw c.items-2.ensures at c.in_ok-put_prices.ensures.ok)
    (written_then r c.put_prices.new.to (flat_map (big_bytes 8) parts.rounding) c.put_units.new.to count new
    (rw c.items-3.ensures at c.in_ok-put_units.ensures.ok)
    (rw c.items-4.ensures at c.put_u32.ensures.ok)))))
