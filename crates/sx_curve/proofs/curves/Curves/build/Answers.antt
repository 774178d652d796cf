use Rattle.std.proofs.Common.{subst, sym, ◌∙◌}
use Rattle.sx_curve.specs.Curves.{AreQuotes}
use Rattle.sx_curve.proofs.BelowSums.{pairs_fit, permuted_market}
use Rattle.sx_curve.proofs.curves.Curves.build.Goals as goal

pub built-requires-clause-fit : goal.built-requires-clause-fit
built-requires-clause-fit c =
    let sorted = c.sorted-sorted.result.items in
    let market = permuted_market c.args.assets c.args.quotes.items sorted c.sorted-sorted.ensures.all c.requires in
    rw c.deref.ensures.value (pairs_fit c.args.assets sorted market)

pub finish-requires : goal.finish-requires
finish-requires c =
    let sorted = c.sorted-sorted.result.items in
    let market = permuted_market c.args.assets c.args.quotes.items sorted c.sorted-sorted.ensures.all c.requires in
    subst (AreQuotes c.args.assets) (sym (c.in_ok-builder.ensures ∙ c.deref.ensures.value)) market
