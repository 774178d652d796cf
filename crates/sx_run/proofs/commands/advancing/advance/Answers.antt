use Rattle.std.proofs.Common.{ap, ◌∙◌}
use Rattle.std.proofs.lemmas.Result.{err_from_is_err_and}
use Rattle.sx_block.specs.Validity.{digest_of_ledger}
use Rattle.sx_ledger.specs.declared.parts.Parts.{Parts}
use Rattle.sx_run.proofs.commands.advancing.advance.Goals as goal

pub returns-in_err-close-clause-refused : goal.returns-in_err-close-clause-refused
returns-in_err-close-clause-refused g c =
    let p = err_from_is_err_and c.from_residual-in_err-close.result c.from_residual-in_err-close.ensures.1 in
    let real = c.in_ok-left.ensures.hash
    ∙ ap (λ (l : Parts). digest_of_ledger l) c.in_ok-ledger.ensures.after in
    let sound = c.validity_laws.ensures.named c.args.head.ledger c.args.incoming.block
    c.in-Ok.ensures.judged.applicable
    (c.in_ok-named.ensures.same ∙ c.wait-parent-2.ensures.hash ∙ c.requires.head.digest) in
    rw (p.1, p.2) (c.check_laws.ensures.wrong_after c.args.head.ledger c.args.incoming.block
    c.in_ok-left.left.digest
    c.in_err-close.field-0.0 sound real c.in_err-close.ensures.differ)

pub returns-clause-valid : goal.returns-clause-valid
returns-clause-valid g c =
    let real = c.in_ok-left.ensures.hash
    ∙ ap (λ (l : Parts). digest_of_ledger l) c.in_ok-ledger.ensures.after in
    let sound = c.validity_laws.ensures.named c.args.head.ledger c.args.incoming.block
    c.in-Ok.ensures.judged.applicable
    (c.in_ok-named.ensures.same ∙ c.wait-parent-2.ensures.hash ∙ c.requires.head.digest) in
    c.validity_laws.ensures.valid c.args.head.ledger c.args.incoming.block sound (c.in_ok-close.ensures.same ∙ real)

pub returns-clause-head : goal.returns-clause-head
returns-clause-head g c = record {
  state = c.in_ok-left.ensures.state;
  digest = c.in_ok-left.ensures.hash;
  whole = c.in_ok-left.ensures.digest;
}
