use Rattle.std.proofs.lemmas.Result.{err_from_is_err_and}
use Rattle.sx_state.specs.Decoding.{units_field_at}
use Rattle.sx_bytes.specs.declared.fault.ReadError.TheVariants as read_error
use Rattle.sx_bytes.specs.Grammar.{many_at}
use Rattle.sx_bytes.proofs.ListReading.{goes_on, ends, is_done}
use Rattle.sx_block.proofs.header_reading.read_rounding.Goals as goal

pub returns-in_err-field_u64 : goal.returns-in_err-field_u64
returns-in_err-field_u64 c =
    let p = err_from_is_err_and c.from_residual-in_err-field_u64.result c.from_residual-in_err-field_u64.ensures.1 in
    rw (p.1, p.2) (ends units_field_at (read_error.Form c.in_err-field_u64.field-0.0) c.loop.rounding.items
    c.args.assets c.loop.counter c.loop.from (many_at units_field_at c.args.assets c.args.from.now)
    c.loop-test.true c.in_err-field_u64.ensures.exact.0 c.loop.invariant)

pub loop-preserved : goal.loop-preserved
loop-preserved c =
    rw c.in_ok-push.ensures.ok (goes_on units_field_at c.loop.rounding.items c.args.assets c.loop.counter
    c.loop.from c.in_ok-field_u64.field-0 c.field_u64.new.self
    (many_at units_field_at c.args.assets c.args.from.now) c.loop-test.true c.in_ok-field_u64.ensures.exact
    c.loop.invariant)

pub returns : goal.returns
returns c = is_done units_field_at c.loop.rounding.items c.args.assets c.loop.counter c.loop.from
    (many_at units_field_at c.args.assets c.args.from.now) c.loop-test.false c.loop.invariant
