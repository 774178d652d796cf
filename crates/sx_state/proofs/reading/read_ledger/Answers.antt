use Rattle.std.proofs.Common.{arith, ap, sym, ◌∙◌, subst, Ok, Result}
use Rattle.std.proofs.lemmas.Result.{err_from_is_err_and}
use Rattle.sx_bytes.specs.declared.fault.FormFault.{FormFault}
use Rattle.sx_bytes.specs.Grammar.{Fails}
use Rattle.sx_ledger.specs.declared.parts.Parts.{Parts}
use Rattle.sx_state.specs.Decoding.{state_at}
use Rattle.sx_state.proofs.Payload.{state_takes, state_again}
use Rattle.sx_state.proofs.reading.read_ledger.Goals as goal

pub of-requires : goal.of-requires
of-requires g c = (state_takes c.args.payload.now c.in_ok-parts.parts (λ i. omega (arith, c.type_inv.payload i))
    c.in_ok-parts.ensures).0

pub returns-clause-found : goal.returns-clause-found
returns-clause-found g c =
    rw c.of.ensures (state_takes c.args.payload.now c.in_ok-parts.parts (λ i. omega (arith, c.type_inv.payload i))
    c.in_ok-parts.ensures)

pub returns-clause-only : goal.returns-clause-only
returns-clause-only g c = λ parts is e. sym (state_again parts is) ∙ ap state_at (sym e) ∙ c.in_ok-parts.ensures
    ∙ ap (λ (p : Parts). Ok p) (sym c.of.ensures)

pub returns-in_err-parts-clause-only : goal.returns-in_err-parts-clause-only
returns-in_err-parts-clause-only g c = λ parts is e.
    let p = err_from_is_err_and c.from_residual.result c.from_residual.ensures.1 in
    rw (p.1, p.2) (subst (λ (r : Result Parts FormFault). Fails c.in_err-parts.field-0.0 r) (ap state_at e
    ∙ state_again parts is) c.in_err-parts.ensures)
