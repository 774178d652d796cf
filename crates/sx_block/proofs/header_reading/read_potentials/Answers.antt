use Rattle.std.proofs.Common.{arith}
use Rattle.std.proofs.lemmas.List.{length_push}
use Rattle.std.proofs.lemmas.Result.{err_from_is_err_and}
use Rattle.sx_block.specs.Decoding.{potential_at}
use Rattle.sx_bytes.specs.declared.fault.ReadError.TheVariants as read_error
use Rattle.sx_bytes.specs.Grammar.{many_at}
use Rattle.sx_bytes.proofs.ListReading.{goes_on, ends, is_done}
use Rattle.sx_block.proofs.header_reading.read_potentials.Goals as goal

pub returns-in_err-read_potential-clause-exact : goal.returns-in_err-read_potential-clause-exact
returns-in_err-read_potential-clause-exact c =
    let p = err_from_is_err_and c.from_residual-in_err-read_potential.result
    c.from_residual-in_err-read_potential.ensures.1 in
    rw (p.1, p.2) (ends potential_at (read_error.Form c.in_err-read_potential.field-0.0) c.loop.potentials.items
    c.args.assets c.loop.counter c.loop.from (many_at potential_at c.args.assets c.args.from.now)
    c.loop-test.true c.in_err-read_potential.ensures c.loop.invariant.2)

pub loop-preserved : goal.loop-preserved
loop-preserved c =
    let more = goes_on potential_at c.loop.potentials.items c.args.assets c.loop.counter c.loop.from
    c.in_ok-read_potential.field-0 c.read_potential.new.from
    (many_at potential_at c.args.assets c.args.from.now) c.loop-test.true c.in_ok-read_potential.ensures
    c.loop.invariant.2 in (
      rw c.in_ok-push.ensures.items (omega
          (arith, length_push c.loop.potentials.items c.in_ok-read_potential.field-0, c.loop.invariant.0)),
      omega arith,
      rw c.in_ok-push.ensures.items more,
    )

pub returns-clause-exact : goal.returns-clause-exact
returns-clause-exact c = is_done potential_at c.loop.potentials.items c.args.assets c.loop.counter c.loop.from
    (many_at potential_at c.args.assets c.args.from.now) c.loop-test.false c.loop.invariant.2
