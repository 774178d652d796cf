use Rattle.sx_bench.proofs.SmallMarket.{small_market}
use Rattle.sx_bench.proofs.search.curves_of.Goals as goal

pub build-requires : goal.build-requires
build-requires c =
    small_market c.args.assets c.args.quotes.items c.requires.assets.0 c.requires.assets.1 c.requires.count
    c.requires.small
