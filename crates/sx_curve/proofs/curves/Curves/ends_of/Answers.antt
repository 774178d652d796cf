use Rattle.std.proofs.Common.{◌≡◌, ◌≤◌, List, ap, length, subst}
use Rattle.sx_curve.specs.declared.quote.Quote.{Quote}
use Rattle.sx_curve.specs.Curves.{IsPairRange, Market}
use Rattle.sx_curve.specs.Listed.{quotes_of}
use Rattle.sx_curve.proofs.BelowSums.{ends_follow}
use Rattle.sx_curve.proofs.Kept.{range_read}
use Rattle.sx_curve.proofs.curves.Curves.ends_of.Goals as goal

pub returns : goal.returns
returns c =
    let inside = c.self.inside in
    let kept = c.self.invariant in
    let place = c.place_of-place.ensures in
    let quotes = quotes_of inside.points.items inside.begins.items in
    let same : quotes ≡ c.args.self.now.quotes = ap (λ (m : Market). m.quotes) c.self.view_is in
    let range = range_read quotes inside.begins.items kept.pairs c.args.sell c.args.buy
    c.place_of-place.result c.index.result.now c.index-2.result.now place.buy place.place place.in_range
    c.index.ensures c.index-2.ensures in
    record {
      range = subst
          (λ (quotes : List Quote). IsPairRange quotes c.args.sell c.args.buy c.index.result.now c.index-2.result.now)
          same range;
      ordered = ends_follow inside.number quotes inside.points.items kept.market kept.in_order kept.of_quotes
          c.args.sell c.args.buy c.index.result.now c.index-2.result.now range;
      within = subst (λ (quotes : List Quote). c.index-2.result.now ≤ length quotes) same range.ends.within;
    }
