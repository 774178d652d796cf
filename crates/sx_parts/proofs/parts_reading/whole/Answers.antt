use Rattle.std.proofs.Common.{List, subst, refl}
use Rattle.std.specs.List.{flat_map}
use Rattle.sx_parts.specs.Decoded.{IsListAt}
use Rattle.sx_parts.proofs.WholeLists.{ends_whole, listed_is}
use Rattle.sx_tx.specs.declared.tx.Tx.{Tx}
use Rattle.sx_parts.proofs.parts_reading.whole.Goals as goal

pub returns : goal.returns
returns g c =
    let payload = c.args.payload.now in
    let count = c.in_ok-count.field-0 in
    let end = c.in_ok-parts.end in
    let txs : List Tx = flat_map (λ list. list) c.in_ok-parts.parts.items in
    let listed : IsListAt payload 0 txs end =
    listed_is payload c.new-from.result c.field_u32.new.self count count 0 c.place-begin.result end txs
    c.new-from.ensures c.in_ok-count.ensures.exact c.in_ok-count.ensures.same c.place-begin.ensures.place refl
    c.in_ok-parts.ensures in
    rw c.of.ensures (ends_whole payload txs (subst (IsListAt payload 0 txs) c.if-end-payload.false listed))
