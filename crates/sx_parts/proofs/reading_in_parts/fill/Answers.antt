use Rattle.std.proofs.Common.{ℕ, ◌<◌, ◌≤◌, List, Ok, length, take, sym, ap, ◌∙◌, arith}
use Rattle.std.proofs.lemmas.List.{length-set, take_all, take_more_set}
use Rattle.sx_bytes.specs.Grammar.{many_at}
use Rattle.sx_bytes.proofs.ListReading.{goes_on, is_done}
use Rattle.sx_tx.specs.declared.tx.Tx.{Tx}
use Rattle.sx_tx.specs.TransactionDecoding.{tx_at}
use Rattle.sx_parts.proofs.reading_in_parts.fill.Goals as goal

pub loop-slot-preserved : goal.loop-slot-preserved
loop-slot-preserved c =
    let n = length c.args.txs.now in
    let slot = c.loop-slot.slot in
    let tx = c.in_ok-account.field-0 in
    let inv = c.loop-slot.invariant in
    let lt : slot < n = omega (arith, c.loop-slot-test.true) in
    let within : slot < length c.loop-slot.txs = omega (arith, lt, inv.one_each) in
    record {
      one_each = length-set c.loop-slot.txs slot tx ∙ inv.one_each;
      same = c.in_ok-account.ensures.same ∙ inv.same;
      all = rw (take_more_set c.loop-slot.txs slot tx within) (goes_on tx_at (take slot c.loop-slot.txs) n slot
          c.loop-slot.from tx c.decode_tx.new.from
          (many_at tx_at n (record { bytes = c.args.payload.now; place = c.args.place })) lt
          c.in_ok-account.ensures.exact inv.all);
    }

pub returns : goal.returns
returns c =
    let n = length c.args.txs.now in
    let txs = c.loop-slot.txs in
    let from = c.loop-slot.from in
    let payload = c.args.payload.now in
    let inv = c.loop-slot.invariant in
    let past : n ≤ c.loop-slot.slot = omega (arith, c.loop-slot-test.false) in
    is_done tx_at (take c.loop-slot.slot txs) n c.loop-slot.slot from
    (many_at tx_at n (record { bytes = payload; place = c.args.place })) past inv.all
    ∙ ap (λ (xs : List Tx). Ok (xs, from)) (take_all c.loop-slot.slot txs (omega (arith, past, inv.one_each)))
    ∙ ap (λ (bytes : List ℕ). Ok (txs, record { bytes = bytes; place = from.place })) inv.same
    ∙ ap (λ (place : ℕ). Ok (txs, record { bytes = payload; place = place })) (sym c.place.ensures.place)
