use Rattle.std.proofs.lemmas.Result.{err_from_is_err_and}
use Rattle.sx_bytes.specs.declared.fault.ReadError.TheVariants as read_error
use Rattle.sx_bytes.specs.Grammar.{many_at}
use Rattle.sx_bytes.proofs.ListReading.{goes_on, ends, is_done}
use Rattle.sx_outcome.specs.OutcomeDecoding.{outcome_at}
use Rattle.sx_outcome.proofs.outcome_reading.entries.Goals as goal

pub returns-in_err-next : goal.returns-in_err-next
returns-in_err-next c =
    let p = err_from_is_err_and c.from_residual-in_err-next.result c.from_residual-in_err-next.ensures.1 in
    rw (p.1, p.2) (ends outcome_at (read_error.Form c.in_err-next.field-0.0) c.loop.outcomes.items c.args.count
    c.loop.counter c.loop.from (many_at outcome_at c.args.count c.args.from.now) c.loop-test.true
    c.in_err-next.ensures.exact c.loop.invariant)

pub loop-preserved : goal.loop-preserved
loop-preserved c =
    rw c.in_ok-push.ensures.items (goes_on outcome_at c.loop.outcomes.items c.args.count c.loop.counter c.loop.from
    c.in_ok-next.next c.outcome.new.from (many_at outcome_at c.args.count c.args.from.now) c.loop-test.true
    c.in_ok-next.ensures.exact c.loop.invariant)

pub returns : goal.returns
returns c =
    rw c.of.ensures (is_done outcome_at c.loop.outcomes.items c.args.count c.loop.counter c.loop.from
    (many_at outcome_at c.args.count c.args.from.now) c.loop-test.false c.loop.invariant)
