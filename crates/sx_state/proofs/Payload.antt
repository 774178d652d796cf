-- A whole payload: its totals and its end.
use Rattle.std.proofs.Common.{◌≡◌, ℕ, true, cond, eqb, List, [], ◌++◌, length, Result, Ok}
use Rattle.std.proofs.Common.{Err, refl, sym, ap, subst, ◌∙◌, arith}
use Rattle.std.proofs.lemmas.Bool.{eqb-true, eq-eqb}
use Rattle.std.proofs.lemmas.List.{append-nil, nil_from_length}
use Rattle.sx_bytes.specs.declared.fault.Form.TheVariants as form
use Rattle.sx_bytes.specs.declared.fault.FormFault.{FormFault}
use Rattle.sx_bytes.specs.Field.{AreBytes}
use Rattle.sx_bytes.specs.Cursor.{Cursor, rest, left}
use Rattle.sx_bytes.specs.Grammar.{◌>>=◌}
use Rattle.sx_bytes.specs.Laws.{IsInjective, IsPrefixFree}
use Rattle.sx_bytes.proofs.Grammar.{bind_ok, guard_ok, length-rest}
use Rattle.sx_bytes.proofs.Parts.{ReadsAgain, is_injective, is_prefix_free}
use Rattle.sx_ledger.specs.declared.parts.Parts.{Parts}
use Rattle.sx_ledger.specs.Ledger.{assets_of, IsLedger}
use Rattle.sx_state.specs.Encoding.{state_bytes}
use Rattle.sx_state.specs.Decoding.{guarded, totals_fit, parts_at, state_at}
use Rattle.sx_state.proofs.TotalsInRange.{totals_in_range, totals_fit_from}
use Rattle.sx_state.proofs.PartsLaws.{parts_take, parts_again, ledger_from_read, read_from_ledger}

-- ---- a payload

abbrev start_of : List ℕ → Cursor
start_of bytes = record { bytes = bytes; place = 0 }

abbrev over : FormFault
over = record { at = 0; fault = form.Total }

abbrev at_end : Parts × Cursor → Result Parts FormFault
at_end read = cond (eqb (left read.1) 0) (Ok read.0) (Err (record { at = read.1.place; fault = form.Rest }))

-- a payload that is decoded is the encoding of what it gives
pub state_takes : (bytes : List ℕ) (parts : Parts) → AreBytes bytes → state_at bytes ≡ Ok parts → IsLedger parts
    × (bytes ≡ state_bytes parts)
unfolding state_at
state_takes bytes parts are e =
    let a = bind_ok (parts_at (start_of bytes)) (λ x. guarded (totals_fit x.0 (assets_of x.0)) x over >>= at_end)
    parts e in
    let b = bind_ok (guarded (totals_fit a.0.0 (assets_of a.0.0)) a.0 over) at_end parts a.2 in
    let fit = guard_ok (totals_fit a.0.0 (assets_of a.0.0)) a.0 b.0 over b.1 in
    let whole = guard_ok (eqb (left b.0.1) 0) b.0.0 parts (record { at = b.0.1.place; fault = form.Rest }) b.2 in
    let t = parts_take (start_of bytes) a.0.1 a.0.0 are a.1 in
    let same : a.0.0 ≡ parts = ap (λ (y : Parts × Cursor). y.0) fit.1 ∙ whole.1 in
    let ended : left a.0.1 ≡ 0 = ap (λ (y : Parts × Cursor). left y.1) fit.1 ∙ eqb-true (left b.0.1) 0 whole.0 in
    let none : rest a.0.1 ≡ [] = nil_from_length (rest a.0.1) (length-rest a.0.1 ∙ ended) in
    let text : bytes ≡ state_bytes a.0.0 = t.0.parts ∙ ap (λ (r : List ℕ). state_bytes a.0.0 ++ r) none
    ∙ append-nil (state_bytes a.0.0) in
    let is : IsLedger a.0.0 = ledger_from_read a.0.0 t.1 (totals_in_range a.0.0 (assets_of a.0.0) fit.0) in
    subst (λ (p : Parts). IsLedger p × (bytes ≡ state_bytes p)) same (is, text)

-- the encoding of a state is decoded as that state
pub state_again : (parts : Parts) → IsLedger parts → state_at (state_bytes parts) ≡ Ok parts
unfolding state_at
state_again parts is =
    let bytes = state_bytes parts in
    let read = parts_again (start_of bytes) parts [] (read_from_ledger parts is) (omega arith)
    (sym (append-nil bytes)) in
    let fit : totals_fit parts (assets_of parts) ≡ true = totals_fit_from parts (assets_of parts) is.totals in
    let ended : left read.next ≡ 0 = sym (length-rest read.next) ∙ ap length read.rest_is in
    rw read.is (rw fit (rw (eq-eqb (left read.next) 0 ended) refl))

-- ---- the laws of the encoding

ledger_again : ReadsAgain parts_at state_bytes IsLedger
ledger_again c parts after is within e = parts_again c parts after (read_from_ledger parts is) within e

pub state_is_injective : IsInjective state_bytes IsLedger
state_is_injective = is_injective parts_at state_bytes IsLedger ledger_again

pub state_is_prefix_free : IsPrefixFree state_bytes IsLedger
state_is_prefix_free = is_prefix_free parts_at state_bytes IsLedger ledger_again
