use Rattle.std.proofs.Common.{arith}
use Rattle.sx_level.proofs.Building.{same_count, all_shaped, all_matched}
use Rattle.sx_level.proofs.network.network_of.Goals as goal

pub add_sources-requires : goal.add_sources-requires
add_sources-requires c = same_count _ _ _ _ c.add_pairs.ensures (omega arith)

pub add_sinks-requires : goal.add_sinks-requires
add_sinks-requires c = same_count _ _ _ _ c.add_sources.ensures (omega arith)

pub returns-clause-shaped : goal.returns-clause-shaped
returns-clause-shaped c =
    all_shaped c.args.bounds.now c.assets-assets.ensures.bounds c.add_sinks.new.net c.add_sinks.ensures

pub returns-clause-matched : goal.returns-clause-matched
returns-clause-matched c =
    all_matched c.args.bounds.now c.assets-assets.ensures.bounds c.add_sinks.new.net c.add_sinks.ensures
