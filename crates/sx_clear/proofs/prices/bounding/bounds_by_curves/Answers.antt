use Rattle.std.proofs.Common.{◌≡◌, ℕ, ◌++◌, false, List, length, take, drop, sym, ap, subst, ◌∙◌, arith}
use Rattle.sx_fill.specs.Bounds.{HasBounds}
use Rattle.sx_fill.proofs.BoundLaws.{bounds_as, put_back}
use Rattle.sx_clear.proofs.CurveBounds.{are_bounds, have_bounds}
use Rattle.sx_clear.proofs.prices.bounding.bounds_by_curves.Goals as goal
use Rattle.sx_curve.specs.Curves.{AreQuotes}
use Rattle.sx_ledger.specs.Bounds.{high_of, low_of}

pub of-requires : goal.of-requires
of-requires c =
    let curves = c.args.curves.now in
    let items = c.items-items.result.now in
    let count : curves.assets ≡ length items = c.requires.assets ∙ ap length (sym c.items-items.ensures) in
    let least = c.write_least.new.entries in
    let most = c.write_most.new.entries in
    let lows = put_back least c.in_ok-low.low.items c.in_ok-low.low.len c.in_ok-low.low.ok.0
    (omega (arith, c.write_least.ensures.full, c.in_ok-low.ensures.len, c.in_ok-low.low.ok.0)) in
    let highs = put_back most c.in_ok-high.high.items c.in_ok-high.high.len c.in_ok-high.high.ok.0
    (omega (arith, c.write_most.ensures.full, c.in_ok-high.ensures.len, c.in_ok-high.high.ok.0)) in
    bounds_as (length items) c.assets-assets.result least
    (take c.in_ok-low.low.len (least ++ drop (length least) c.in_ok-low.low.items)) most
    (take c.in_ok-high.high.len (most ++ drop (length most) c.in_ok-high.high.items))
    (c.assets-assets.ensures.assets ∙ count) lows highs
    (are_bounds (length items) c.args.mu curves.quotes items least most
    (subst (λ (n : ℕ). AreQuotes n curves.quotes) count c.assets-assets.ensures.quotes) c.write_least.ensures
    c.write_most.ensures)

pub returns : goal.returns
returns c = λ offers permuted.
    let curves = c.args.curves.now in
    let items = c.items-items.result.now in
    let count : curves.assets ≡ length items = c.requires.assets ∙ ap length (sym c.items-items.ensures) in
    let least = c.write_least.new.entries in
    let most = c.write_most.new.entries in
    let lows = put_back least c.in_ok-low.low.items c.in_ok-low.low.len c.in_ok-low.low.ok.0
    (omega (arith, c.write_least.ensures.full, c.in_ok-low.ensures.len, c.in_ok-low.low.ok.0)) in
    let highs = put_back most c.in_ok-high.high.items c.in_ok-high.high.len c.in_ok-high.high.ok.0
    (omega (arith, c.write_most.ensures.full, c.in_ok-high.ensures.len, c.in_ok-high.high.ok.0)) in
    subst
    (λ (prices : List ℕ). HasBounds (length prices) (low_of prices c.args.mu false offers) (high_of prices offers)
    c.of.result) c.items-items.ensures
    (have_bounds items c.args.mu offers curves.quotes permuted (length items) least most c.of.result
    c.write_least.ensures c.write_most.ensures (c.of.ensures.assets ∙ c.assets-assets.ensures.assets ∙ count)
    (c.of.ensures.low ∙ lows) (c.of.ensures.high ∙ highs))
