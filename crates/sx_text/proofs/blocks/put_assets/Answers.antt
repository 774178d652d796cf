use Rattle.std.specs.Prelude.{string_bytes}
use Rattle.sx_text.specs.Blocks.{market_line}
use Rattle.sx_text.proofs.Indexed.{indexed-taken}
use Rattle.sx_text.proofs.blocks.put_assets.Goals as goal

pub loop-asset-preserved : goal.loop-asset-preserved
loop-asset-preserved c =
    let price = c.index-prices-asset.result in
    indexed-taken (market_line c.args.potentials.now c.args.rounding.now) c.args.prices.now c.loop-asset.asset-counter
    price price (string_bytes c.args.to.now) (string_bytes c.loop-asset.to) (string_bytes c.write.new.self)
    c.loop-asset-test.true c.index-prices-asset.is c.loop-asset.invariant
    (rw c.get-price.ensures.value at c.in_ok-write.ensures.bytes)
