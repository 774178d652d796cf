use Rattle.std.proofs.Common.{◌∙◌, arith}
use Rattle.std.proofs.lemmas.Result.{err_from_is_err_and}
use Rattle.sx_bytes.specs.declared.fault.ReadError.TheVariants as read_error
use Rattle.sx_bytes.specs.Grammar.{many_at}
use Rattle.sx_bytes.proofs.ListReading.{goes_on, ends, is_done}
use Rattle.sx_state.specs.Decoding.{price_at}
use Rattle.sx_state.proofs.reading.prices.Goals as goal

pub returns-in_err-price-clause-exact : goal.returns-in_err-price-clause-exact
returns-in_err-price-clause-exact c =
    let p = err_from_is_err_and c.from_residual-in_err-price.result c.from_residual-in_err-price.ensures.1 in
    rw (p.1, p.2) (ends price_at (read_error.Form c.in_err-price.field-0.0)
    c.loop.prices.items c.args.assets c.loop.counter c.loop.from (many_at price_at c.args.assets c.args.from.now)
    c.loop-test.true c.in_err-price.ensures.exact.0 c.loop.invariant.decoded)

pub loop-preserved : goal.loop-preserved
loop-preserved c = record {
  decoded = rw c.in_ok-push.ensures.items
      (goes_on price_at c.loop.prices.items c.args.assets c.loop.counter c.loop.from c.in_ok-price.field-0
      c.price.new.from (many_at price_at c.args.assets c.args.from.now)
      c.loop-test.true c.in_ok-price.ensures.exact c.loop.invariant.decoded);
  same = c.in_ok-price.ensures.same ∙ c.loop.invariant.same;
  onward = omega (arith, c.in_ok-price.ensures.onward, c.loop.invariant.onward);
}

pub returns-clause-exact : goal.returns-clause-exact
returns-clause-exact c =
    rw c.of.ensures (is_done price_at c.loop.prices.items c.args.assets c.loop.counter c.loop.from
    (many_at price_at c.args.assets c.args.from.now) c.loop-test.false c.loop.invariant.decoded)
