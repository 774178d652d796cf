use Rattle.std.proofs.Common.{◌≡◌, List, ap, subst, sym}
use Rattle.std.specs.List.{slice_range}
use Rattle.std.specs.List.Sorted.{IsNonDecreasingBy}
use Rattle.sx_curve.specs.declared.points.Point.{Point}
use Rattle.sx_curve.specs.declared.quote.Quote.{Quote}
use Rattle.sx_curve.specs.Curves.{AreCurves, AreSumsAt, Market, ReachesTo}
use Rattle.sx_curve.specs.Listed.{quotes_of}
use Rattle.sx_curve.proofs.BelowSums.{point_limits_rise, sums_below}
use Rattle.sx_curve.proofs.curves.Curves.below_here.Goals as goal

pub count_below-count-requires : goal.count_below-count-requires
count_below-count-requires c =
    let inside = c.self.inside in
    let points = inside.points.items in
    let quotes = c.args.self.now.quotes in
    let same : quotes_of points inside.begins.items ≡ quotes = ap (λ (m : Market). m.quotes) c.self.view_is in
    let kept = subst (λ (quotes : List Quote). AreCurves inside.number quotes points inside.begins.items) same
    c.self.invariant in
    let rise = point_limits_rise inside.number quotes points kept.market kept.in_order kept.of_quotes c.args.sell
    c.args.buy c.args.begin c.args.end c.requires.range in
    record {
      in_order = subst
          (λ (points : List Point). IsNonDecreasingBy (λ point. point.limit)
          (slice_range points c.args.begin c.args.end))
          (sym c.deref.ensures.value) rise;
      den = c.requires.den;
    }

pub returns : goal.returns
returns c =
    let inside = c.self.inside in
    let points = inside.points.items in
    let quotes = c.args.self.now.quotes in
    let count = c.count_below-count.result in
    let same : quotes_of points inside.begins.items ≡ quotes = ap (λ (m : Market). m.quotes) c.self.view_is in
    let kept = subst (λ (quotes : List Quote). AreCurves inside.number quotes points inside.begins.items) same
    c.self.invariant in
    let reaches = subst
    (λ (points : List Point). ReachesTo (slice_range points c.args.begin c.args.end) c.args.num c.args.den count)
    c.deref.ensures.value c.count_below-count.ensures in
    let sums = subst
    (λ (points : List Point). AreSumsAt (slice_range points c.args.begin c.args.end) count c.sums_at.result)
    c.deref.ensures.value c.sums_at.ensures in
    let below = sums_below inside.number quotes points kept.market kept.in_order kept.of_quotes kept.limits c.args.sell
    c.args.buy c.args.begin c.args.end c.args.num c.args.den count c.requires.range reaches c.sums_at.result sums in
    record {
      amount = below.amount;
      weighted = below.weighted;
      amount_range = below.amount_range;
      weighted_range = below.weighted_range;
    }
