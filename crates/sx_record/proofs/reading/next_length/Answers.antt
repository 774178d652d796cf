use Rattle.std.proofs.lemmas.Result.{err_from_is_err_and}
use Rattle.sx_record.proofs.Framing.{length_short, length_long, length_read}
use Rattle.sx_record.proofs.reading.next_length.Goals as goal

pub returns-in_err-fill-clause-exact : goal.returns-in_err-fill-clause-exact
returns-in_err-fill-clause-exact g c =
    let p = err_from_is_err_and c.from_residual.result c.from_residual.ensures.1 in
    rw (p.1, p.2) (length_short _ _ c.args.at _ c.in_err-fill.ensures.form)

pub returns-then-length-gt-MOST_BYTES-clause-exact :
    goal.returns-then-length-gt-MOST_BYTES-clause-exact
returns-then-length-gt-MOST_BYTES-clause-exact g c =
    rw c.fault_at.ensures (length_long _ _ c.args.at c.length_in-length.result c.fill.new.into c.in_ok-fill.ensures.ok
    c.fill.auto.into c.length_in-length.ensures.decoded c.if-length-gt-MOST_BYTES.true)

pub returns-clause-exact : goal.returns-clause-exact
returns-clause-exact g c =
    length_read _ _ c.args.at c.length_in-length.result c.fill.new.into c.in_ok-fill.ensures.ok c.fill.auto.into
    c.length_in-length.ensures.decoded c.if-length-gt-MOST_BYTES.false
