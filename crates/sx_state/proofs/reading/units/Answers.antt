use Rattle.std.proofs.Common.{◌∙◌, arith}
use Rattle.std.proofs.lemmas.Result.{err_from_is_err_and}
use Rattle.sx_bytes.specs.declared.fault.ReadError.TheVariants as read_error
use Rattle.sx_bytes.specs.Grammar.{many_at}
use Rattle.sx_bytes.proofs.ListReading.{goes_on, ends, is_done}
use Rattle.sx_state.specs.Decoding.{units_field_at}
use Rattle.sx_state.proofs.reading.units.Goals as goal

pub returns-in_err-field_u64-clause-exact : goal.returns-in_err-field_u64-clause-exact
returns-in_err-field_u64-clause-exact c =
    let p = err_from_is_err_and c.from_residual-in_err-field_u64.result c.from_residual-in_err-field_u64.ensures.1 in
    rw (p.1, p.2) (ends units_field_at (read_error.Form c.in_err-field_u64.field-0.0)
    c.loop.units.items c.args.assets c.loop.counter c.loop.from
    (many_at units_field_at c.args.assets c.args.from.now)
    c.loop-test.true c.in_err-field_u64.ensures.exact.0 c.loop.invariant.decoded)

pub loop-preserved : goal.loop-preserved
loop-preserved c = record {
  decoded = rw c.in_ok-push.ensures.ok
      (goes_on units_field_at c.loop.units.items c.args.assets c.loop.counter c.loop.from c.in_ok-field_u64.field-0
      c.field_u64.new.self (many_at units_field_at c.args.assets c.args.from.now)
      c.loop-test.true c.in_ok-field_u64.ensures.exact c.loop.invariant.decoded);
  same = c.in_ok-field_u64.ensures.same ∙ c.loop.invariant.same;
  onward = omega (arith, c.in_ok-field_u64.ensures.onward, c.loop.invariant.onward);
}

pub returns-clause-exact : goal.returns-clause-exact
returns-clause-exact c = is_done units_field_at c.loop.units.items c.args.assets c.loop.counter c.loop.from
    (many_at units_field_at c.args.assets c.args.from.now) c.loop-test.false c.loop.invariant.decoded
