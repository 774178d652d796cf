use Rattle.std.proofs.Common.{◌≡◌, ap, ◌∙◌}
use Rattle.sx_block.specs.Validity.{digest_of_ledger, ledger_after}
use Rattle.sx_follow.proofs.leaving.closed.Goals as goal
use Rattle.sx_ledger.specs.declared.parts.Parts.{Parts}

pub returns-in-Ok-clause-valid : goal.returns-in-Ok-clause-valid
returns-in-Ok-clause-valid c = λ head sound is.
    let block = c.args.block.now in
    let digest : c.in_ok-digest.digest ≡ digest_of_ledger (ledger_after head block) =
    c.in_ok-digest.ensures ∙ ap (λ (l : Parts). digest_of_ledger l) is in
    record {
      valid = c.validity_laws.ensures.valid head block sound (c.in-Ok.ensures.same ∙ digest);
      ledger = is;
      digest = digest;
    }

pub returns-in-Err-clause-refused : goal.returns-in-Err-clause-refused
returns-in-Err-clause-refused c = λ head sound is valid.
    let block = c.args.block.now in
    let digest : c.in_ok-digest.digest ≡ digest_of_ledger (ledger_after head block) =
    c.in_ok-digest.ensures ∙ ap (λ (l : Parts). digest_of_ledger l) is in
    c.check_laws.ensures.valid_is_not_refused head block c.in-Err.field-0 valid
    (c.check_laws.ensures.wrong_after head block c.in_ok-digest.digest c.in-Err.field-0 sound digest
    c.in-Err.ensures.differ)
