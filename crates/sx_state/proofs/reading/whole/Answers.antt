use Rattle.std.proofs.Common.{◌≡◌, ℕ, List, Ok, sym, ap, subst, arith}
use Rattle.sx_bytes.specs.Cursor.{Cursor}
use Rattle.sx_bytes.specs.Field.{AreBytes}
use Rattle.sx_ledger.specs.declared.parts.Parts.{Parts}
use Rattle.sx_state.specs.Decoding.{parts_at}
use Rattle.sx_state.proofs.PartsLaws.{IsRead, parts_take}
use Rattle.sx_state.proofs.reading.whole.Goals as goal

-- what is read from the first byte of a payload
is_read : (payload : List ℕ) (c next : Cursor) (parts : Parts) → c ≡ record { bytes = payload; place = 0 }
    → AreBytes payload → parts_at c ≡ Ok (parts, next) → IsRead parts
is_read payload c next parts same are e =
    (parts_take c next parts (subst AreBytes (sym (ap (λ (d : Cursor). d.bytes) same)) are) e).1

pub totals_fit-requires-clause-few_assets : goal.totals_fit-requires-clause-few_assets
totals_fit-requires-clause-few_assets g c =
    (is_read c.args.payload.now _ _ _ c.new-from.ensures (λ i. omega (arith, c.type_inv.payload i))
    c.in_ok-parts.ensures).head_is.1.1.0.1

pub totals_fit-requires-clause-rounding : goal.totals_fit-requires-clause-rounding
totals_fit-requires-clause-rounding g c =
    (is_read c.args.payload.now _ _ _ c.new-from.ensures (λ i. omega (arith, c.type_inv.payload i))
    c.in_ok-parts.ensures).head_is.1.1.1.rounding.number

pub totals_fit-requires-clause-kept : goal.totals_fit-requires-clause-kept
totals_fit-requires-clause-kept g c =
    (is_read c.args.payload.now _ _ _ c.new-from.ensures (λ i. omega (arith, c.type_inv.payload i))
    c.in_ok-parts.ensures).head_is.1.1.1.rounding.are

pub totals_fit-requires-clause-balances : goal.totals_fit-requires-clause-balances
totals_fit-requires-clause-balances g c =
    let is = is_read c.args.payload.now _ _ _ c.new-from.ensures (λ i. omega (arith, c.type_inv.payload i))
    c.in_ok-parts.ensures in
    λ k d lt. (is.accounts_are.are k d lt).balances

pub totals_fit-requires-clause-small : goal.totals_fit-requires-clause-small
totals_fit-requires-clause-small g c =
    let is = is_read c.args.payload.now _ _ _ c.new-from.ensures (λ i. omega (arith, c.type_inv.payload i))
    c.in_ok-parts.ensures in
    λ k d lt. (is.accounts_are.are k d lt).in_range

pub totals_fit-requires-clause-few_accounts : goal.totals_fit-requires-clause-few_accounts
totals_fit-requires-clause-few_accounts g c =
    (is_read c.args.payload.now _ _ _ c.new-from.ensures (λ i. omega (arith, c.type_inv.payload i))
    c.in_ok-parts.ensures).accounts_are.few

pub totals_fit-requires-clause-few_offers : goal.totals_fit-requires-clause-few_offers
totals_fit-requires-clause-few_offers g c =
    (is_read c.args.payload.now _ _ _ c.new-from.ensures (λ i. omega (arith, c.type_inv.payload i))
    c.in_ok-parts.ensures).offers_are.few
