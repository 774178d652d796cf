use Rattle.std.proofs.Common.{ℕ, List, Ok, sym, ap, ◌∙◌}
use Rattle.sx_bytes.specs.Grammar.{many_at}
use Rattle.sx_bytes.proofs.ListReading.{goes_on, is_done}
use Rattle.sx_tx.specs.TransactionDecoding.{tx_at}
use Rattle.sx_parts.proofs.parts_reading.part.Goals as goal

pub loop-preserved : goal.loop-preserved
loop-preserved c = record {
  same = c.in_ok-account.ensures.same ∙ c.loop.invariant.same;
  all = rw c.in_ok-push.ensures.items (goes_on tx_at c.loop.txs.items c.args.count c.loop.counter c.loop.from
      c.in_ok-account.field-0 c.decode_tx.new.from
      (many_at tx_at c.args.count (record { bytes = c.args.payload.now; place = c.args.place })) c.loop-test.true
      c.in_ok-account.ensures.exact c.loop.invariant.all);
}

pub returns : goal.returns
returns c =
    let txs = c.loop.txs.items in
    let from = c.loop.from in
    let payload = c.args.payload.now in
    rw c.of.ensures
    (is_done tx_at txs c.args.count c.loop.counter from
    (many_at tx_at c.args.count (record { bytes = payload; place = c.args.place })) c.loop-test.false
    c.loop.invariant.all
    ∙ ap (λ (bytes : List ℕ). Ok (txs, record { bytes = bytes; place = from.place })) c.loop.invariant.same
    ∙ ap (λ (place : ℕ). Ok (txs, record { bytes = payload; place = place })) (sym c.place.ensures.place))
