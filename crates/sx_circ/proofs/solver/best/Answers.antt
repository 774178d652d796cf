use Rattle.std.proofs.Common.{◌≡◌, ◌∙◌, rules, arith}
use Rattle.sx_circ.proofs.Ending.{kept_flow, level_fits}
use Rattle.sx_circ.proofs.WrittenBack.{written_back}
use Rattle.sx_dual.specs.Tables.{entry_at, high_of, low_of, potential_of}
use Rattle.sx_circ.proofs.solver.best.Goals as goal

pub of-requires : goal.of-requires
of-requires g c =
    let back = written_back c.into_values-values.result.len c.cancel_all.new.values
    c.into_values-values.result.items (search rules) (search rules) in
    rw (back, c.assets-assets.ensures.assets)
    (kept_flow c.args.bounds.now c.cancel_all.new.values c.assets-assets.ensures.bounds c.cancel_all.ensures.keeps)

pub returns-clause-fits : goal.returns-clause-fits
returns-clause-fits g c =
    let bounds = c.args.bounds.now in
    let values = c.cancel_all.new.values in
    let back = written_back c.into_values-values.result.len values c.into_values-values.result.items (search rules)
    (search rules) in
    let start : c.as_mut_slice.result.now ≡ c.args.start.values =
    c.as_mut_slice.ensures.value ∙ c.into_values-values.ensures.values in
    let walks : c.as_slice.result.now ≡ c.cancel_all.new.walks =
    c.as_slice.ensures.value
    ∙ written_back c.in_ok-walks.walks.len c.cancel_all.new.walks c.in_ok-walks.walks.items (search rules)
    (search rules) in
    let each = rw walks at c.in_ok-potentials.ensures.each in
    let flow_assets : c.of.result.assets ≡ bounds.assets = c.of.ensures.assets ∙ c.assets-assets.ensures.assets in
    let flow_values : c.of.result.values ≡ values = c.of.ensures.values ∙ back in
    rw (flow_assets, flow_values, c.of-2.ensures)
    (level_fits bounds c.args.start.values values c.cancel_all.new.walks c.in_ok-potentials.potentials.items
    (rw c.requires.assets at c.requires.start) c.cancel_all.ensures.keeps
    (rw start at c.cancel_all.ensures.balanced) c.cancel_all.ensures.level
    (λ k lt. each k (omega (arith, c.cancel_all.ensures.count))))

pub returns-clause-greatest : goal.returns-clause-greatest
returns-clause-greatest g c =
    let bounds = c.args.bounds.now in
    let values = c.cancel_all.new.values in
    let back = written_back c.into_values-values.result.len values c.into_values-values.result.items (search rules)
    (search rules) in
    let start : c.as_mut_slice.result.now ≡ c.args.start.values =
    c.as_mut_slice.ensures.value ∙ c.into_values-values.ensures.values in
    let walks : c.as_slice.result.now ≡ c.cancel_all.new.walks =
    c.as_slice.ensures.value
    ∙ written_back c.in_ok-walks.walks.len c.cancel_all.new.walks c.in_ok-walks.walks.items (search rules)
    (search rules) in
    let each = rw walks at c.in_ok-potentials.ensures.each in
    let flow_assets : c.of.result.assets ≡ bounds.assets = c.of.ensures.assets ∙ c.assets-assets.ensures.assets in
    let flow_values : c.of.result.values ≡ values = c.of.ensures.values ∙ back in
    let fits = level_fits bounds c.args.start.values values c.cancel_all.new.walks c.in_ok-potentials.potentials.items
    (rw c.requires.assets at c.requires.start) c.cancel_all.ensures.keeps
    (rw start at c.cancel_all.ensures.balanced) c.cancel_all.ensures.level
    (λ k lt. each k (omega (arith, c.cancel_all.ensures.count))) in
    let greatest = c.dual_laws.ensures.greatest bounds.assets (low_of bounds) (high_of bounds)
    (entry_at bounds.assets values) (potential_of c.in_ok-potentials.potentials.items) fits in
    rw (flow_assets, flow_values) greatest
