use Rattle.std.proofs.Common.{◌≡◌, length, ◌∙◌, arith}
use Rattle.std.proofs.lemmas.List.{with_items_is}
use Rattle.sx_parts.specs.Decoded.{AreDecoded}
use Rattle.sx_parts.proofs.WholeLists.{listed_is}
use Rattle.sx_tx.specs.TransactionDecoding.{tx_at}
use Rattle.sx_tx.proofs.Halves.{many_length}
use Rattle.sx_parts.proofs.reading_in_parts.listed.Goals as goal

pub returns : goal.returns
returns g c =
    let payload = c.args.payload.now in
    let begin = c.place-begin.result in
    let count = c.in_ok-count.count in
    let end = c.in_ok-end.end in
    let txs = c.fill_by.new.txs in
    let slots = length c.deref_mut.result.now in
    let decoded : AreDecoded payload begin slots txs end = c.in_ok-end.ensures in
    let made : slots ≡ count =
    omega (arith, c.deref_mut.ensures.len, c.in_ok-txs.ensures.len, c.in_ok-txs.txs.ok) in
    let one_each : length txs ≡ slots =
    many_length tx_at slots (record { bytes = payload; place = begin }) (record { bytes = payload; place = end }) txs
    decoded in
    let items : c.of.result ≡ txs =
    c.of.ensures ∙ with_items_is c.in_ok-txs.txs txs (omega (arith, one_each, c.deref_mut.ensures.len)) in
    rw items (listed_is payload c.in_ok-from.from c.field_u32.new.self count slots c.args.place begin end txs
    c.in_ok-from.ensures.reader c.in_ok-count.ensures.exact c.in_ok-count.ensures.same c.place-begin.ensures.place made
    decoded)
