use Rattle.std.proofs.Common.{◌∙◌, arith, append-nil, refl}
use Rattle.sx_gen.specs.Candidates.{payment_at}
use Rattle.sx_gen.proofs.Words.{before_any, steps_more, payments_more, listed_none, unwrapped}
use Rattle.sx_gen.proofs.candidates.with_payments.Goals as goal

pub loop-i-init : goal.loop-i-init
loop-i-init c = record {
  txs = rw (listed_none (payment_at c.args.generator.now), append-nil) refl;
  after = before_any c.args.generator.now;
}

pub loop-i-preserved : goal.loop-i-preserved
loop-i-preserved c = record {
  txs = c.in_ok-push.ensures.items ∙ payments_more c.args.txs.items c.loop-i.txs.items c.args.generator.now
      c.loop-i.i _ _ _
      c.loop-i.invariant.after c.payment.ensures.kind (unwrapped c.new.result _ _ c.unwrap.ensures c.new.ensures.value)
      c.loop-i.invariant.txs;
  after = steps_more 3 c.loop-i.i c.args.generator.now _ _ c.payment.ensures.after c.loop-i.invariant.after (omega
      arith);
}
