use Rattle.std.proofs.Common.{◌≡◌, List, ℕ, ◌++◌, length, Result, Ok, Err, ap, sym, ◌∙◌}
use Rattle.std.specs.Prelude.{OnErr}
use Rattle.std.specs.List.{flat_map}
use Rattle.std.proofs.lemmas.Result.{on_err_weaker, on_ok_weaker}
use Rattle.byteorder.specs.Endian.{big_bytes}
use Rattle.sx_bytes.specs.Written.{Begins}
use Rattle.sx_bytes.proofs.Written.{begins_since, written_then}
use Rattle.sx_state.specs.Encoding.{account_bytes, offer_bytes, opening_bytes}
use Rattle.sx_state.proofs.Opening.{opening_first}
use Rattle.sx_state.proofs.writing.put_state.Goals as goal

on_err : {T E P : Type 0} (r : Result T E) → P → OnErr r P
on_err (Ok x) p = tt
on_err (Err x) p = p

pub returns-in_err-write_accounts-clause-err : goal.returns-in_err-write_accounts-clause-err
returns-in_err-write_accounts-clause-err c =
    on_err _ (begins_since _ _ _ _ c.in_ok-put_opening.ensures.ok c.in_err-write_accounts.ensures.err)

pub returns-clause-err : goal.returns-clause-err
returns-clause-err c =
    let new = c.write_offers.new.to in
    on_err_weaker c.write_offers.result (λ (later : Begins c.put_u32.new.self new).
    begins_since _ _ _ new c.in_ok-put_opening.ensures.ok
    (begins_since _ _ _ new c.in_ok-write_accounts.ensures.ok
    (begins_since _ _ _ new c.in_ok-put_u32.ensures.ok later))) c.write_offers.ensures.err

pub returns-clause-ok : goal.returns-clause-ok
returns-clause-ok c =
    let r = c.write_offers.result in
    let new = c.write_offers.new.to in
    let parts = c.args.parts.now in
    let offers : List ℕ = flat_map offer_bytes parts.offers in
    let from_offers : List ℕ = big_bytes 4 (length parts.offers) ++ offers in
    let from_accounts : List ℕ = flat_map (account_bytes parts.version) parts.accounts ++ from_offers in
    on_ok_weaker r (λ (is : new ≡ c.args.to.now ++ (opening_bytes parts ++ from_accounts)).
    is ∙ ap (λ (text : List ℕ). c.args.to.now ++ text) (sym (opening_first parts)))
    (written_then r c.args.to.now (opening_bytes parts) c.put_opening.new.to from_accounts new
    c.in_ok-put_opening.ensures.ok
    (written_then r c.put_opening.new.to (flat_map (account_bytes parts.version) parts.accounts)
    c.write_accounts.new.to from_offers new
    (rw c.items.ensures at c.in_ok-write_accounts.ensures.ok)
    (written_then r c.write_accounts.new.to (big_bytes 4 (length parts.offers)) c.put_u32.new.self offers new
    (rw c.items-2.ensures at c.in_ok-put_u32.ensures.ok)
    (rw c.items-3.ensures at c.write_offers.ensures.ok))))
