use Rattle.std.proofs.Common.{sym, ◌∙◌}
use Rattle.std.proofs.lemmas.Result.{err_from_is_err_and}
use Rattle.sx_record.proofs.Framing.{none_read, tag_refused, length_fails, payload_fails, record_read}
use Rattle.sx_record.proofs.reading.next_record.Goals as goal

pub returns-in_default-clause-exact : goal.returns-in_default-clause-exact
returns-in_default-clause-exact g c =
    none_read _ _ c.args.tags.now c.args.at (rw c.in_default.is at c.in_ok-tag.ensures.ok)

pub returns-then-not-contains-clause-exact : goal.returns-then-not-contains-clause-exact
returns-then-not-contains-clause-exact g c =
    rw c.fault_at.ensures (tag_refused _ _ c.args.tags.now c.args.at c.in-Some.tag
    (rw c.in-Some.is at c.in_ok-tag.ensures.ok) (sym c.contains.ensures.value ∙ c.if-not-contains.true))

pub returns-in_err-size-clause-exact : goal.returns-in_err-size-clause-exact
returns-in_err-size-clause-exact g c =
    let p = err_from_is_err_and c.from_residual-in_err-size.result c.from_residual-in_err-size.ensures.1 in
    rw (p.1, p.2) (length_fails _ _ _ c.args.tags.now c.args.at c.in-Some.tag _
    (rw c.in-Some.is at c.in_ok-tag.ensures.ok) (sym c.contains.ensures.value ∙ c.if-not-contains.false)
    c.in_err-size.ensures.exact)

pub returns-in_err-payload-clause-exact : goal.returns-in_err-payload-clause-exact
returns-in_err-payload-clause-exact g c =
    let p = err_from_is_err_and c.from_residual-in_err-payload.result c.from_residual-in_err-payload.ensures.1 in
    rw (p.1, p.2) (payload_fails _ _ _ _ c.args.tags.now c.args.at c.in-Some.tag c.in_ok-size.size _
    (rw c.in-Some.is at c.in_ok-tag.ensures.ok) (sym c.contains.ensures.value ∙ c.if-not-contains.false)
    c.in_ok-size.ensures.exact c.in_err-payload.ensures.form)

pub returns-clause-exact : goal.returns-clause-exact
returns-clause-exact g c =
    rw c.of.ensures (record_read _ _ _ _ c.args.tags.now c.args.at c.in-Some.tag c.in_ok-size.size
    c.in_ok-payload.payload.items (rw c.in-Some.is at c.in_ok-tag.ensures.ok)
    (sym c.contains.ensures.value ∙ c.if-not-contains.false) c.in_ok-size.ensures.exact c.in_ok-payload.ensures.ok
    c.in_ok-payload.ensures.whole)
