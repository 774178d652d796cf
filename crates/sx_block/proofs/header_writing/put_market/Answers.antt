use Rattle.std.proofs.Common.{List, ℕ, ◌++◌}
use Rattle.std.specs.List.{flat_map}
use Rattle.byteorder.specs.Endian.{big_bytes}
use Rattle.sx_block.specs.Encoding.{flow_bytes, cut_bytes}
use Rattle.sx_bytes.proofs.Written.{written_then}
use Rattle.sx_block.proofs.header_writing.put_market.Goals as goal

pub returns-clause-ok : goal.returns-clause-ok
returns-clause-ok c =
    let r = c.put_cut.result in
    let new = c.put_cut.new.to in
    let h = c.args.header.now in
    let cut : List ℕ = cut_bytes h.dropped in
    written_then r c.args.to.now (flat_map (big_bytes 8) h.prices) c.put_prices.new.to (flow_bytes h.trades ++ cut)
    new (rw c.items.ensures at c.in_ok-put_prices.ensures.ok)
    (written_then r c.put_prices.new.to (flow_bytes h.trades) c.put_flow.new.to cut new c.in_ok-put_flow.ensures.ok
    c.put_cut.ensures.ok)
