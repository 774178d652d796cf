use Rattle.std.proofs.Common.{rules}
use Rattle.std.specs.List.{slice_range}
use Rattle.std.proofs.lemmas.List.Sorted.{IsPartitionPoint-from_clause}
use Rattle.sx_curve.specs.Curves.{is_point_below}
use Rattle.sx_curve.proofs.BracketLaws.{between_rise, reaches_between}
use Rattle.sx_curve.proofs.InOrder.{limits_part}
use Rattle.sx_curve.proofs.limits.count_below.Goals as goal

pub returns : goal.returns
returns c =
    let pair = c.args.pair.now in
    let num = c.args.num in
    let den = c.args.den in
    let low = c.bracket-low.result.0 in
    let high = c.bracket-low.result.1 in
    let rise = between_rise pair num den c.requires.in_order low high c.bracket-low.ensures in
    let parted = IsPartitionPoint-from_clause (is_point_below num den) (slice_range pair low high)
    c.partition_point.result c.partition_point.ensures.partitioned
    (limits_part (slice_range pair low high) num den rise) (λ a r g called. search rules) in
    reaches_between pair num den c.requires.in_order low high c.bracket-low.ensures c.partition_point.result
    c.partition_point.ensures.bound parted
