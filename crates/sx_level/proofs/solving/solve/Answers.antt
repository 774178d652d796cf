use Rattle.std.proofs.Common.{◌≡◌, length, rules, ap, ◌∙◌, arith}
use Rattle.std.specs.Prelude.{replicate, slice_index}
use Rattle.std.proofs.lemmas.List.{get_or-replicate, length-replicate}
use Rattle.sx_dual.specs.Tables.{high_of, low_of, potential_of, value_of}
use Rattle.sx_level.specs.Shape.{traded}
use Rattle.sx_level.proofs.Counting.{all_counted, all_limited}
use Rattle.sx_level.proofs.Gaps.{same_fits}
use Rattle.sx_level.proofs.Starting.{first_level}
use Rattle.sx_level.proofs.WrittenBack.{written_back}
use Rattle.sx_level.proofs.solving.solve.Goals as goal

pub climb-requires-clause-level : goal.climb-requires-clause-level
climb-requires-clause-level g c =
    let bounds = c.args.bounds.now in
    let zeros : c.as_mut_slice.result.now ≡ replicate c.assets.result 0 =
    c.as_mut_slice.ensures.value ∙ c.in_ok-heights.ensures.items_if_clones_equal (λ y e. e) in
    let made = c.in_ok-net.ensures in
    first_level bounds c.in_ok-net.net.arcs c.as_mut_slice.result.now c.greatest_high-most.result made.shaped
    made.matched made.full made.surplus c.greatest_high-most.ensures.most
    (λ a lt.
    ap (λ xs. slice_index xs a) zeros
    ∙ get_or-replicate c.assets.result a 0 0 (omega (arith, lt, c.assets.ensures.assets)))

pub returns-in-Some-clause-decided : goal.returns-in-Some-clause-decided
returns-in-Some-clause-decided g c =
    let bounds = c.args.bounds.now in
    c.dual_laws.ensures.none bounds.assets (low_of bounds) (high_of bounds) c.in-Some.cut.0 c.in-Some.ensures.cut.cut

pub returns-in-Some-clause-counted : goal.returns-in-Some-clause-counted
returns-in-Some-clause-counted g c =
    all_counted c.args.bounds.now c.assets.ensures.bounds c.greatest_high-most.result c.args.steps.now
    c.climb.new.steps c.greatest_high-most.ensures.least c.climb.ensures.counted

pub returns-in-Some-clause-limited : goal.returns-in-Some-clause-limited
returns-in-Some-clause-limited g c =
    all_limited c.args.bounds.now c.assets.ensures.bounds c.greatest_high-most.result c.args.steps.now
    c.climb.new.steps c.greatest_high-most.ensures.least c.climb.ensures.counted

pub returns-in_err-flow_of-in-None-clause-counted : goal.returns-in_err-flow_of-in-None-clause-counted
returns-in_err-flow_of-in-None-clause-counted g c =
    all_counted c.args.bounds.now c.assets.ensures.bounds c.greatest_high-most.result c.args.steps.now
    c.climb.new.steps c.greatest_high-most.ensures.least c.climb.ensures.counted

pub returns-in_err-flow_of-in-None-clause-limited : goal.returns-in_err-flow_of-in-None-clause-limited
returns-in_err-flow_of-in-None-clause-limited g c =
    all_limited c.args.bounds.now c.assets.ensures.bounds c.greatest_high-most.result c.args.steps.now
    c.climb.new.steps c.greatest_high-most.ensures.least c.climb.ensures.counted

pub returns-clause-solved : goal.returns-clause-solved
returns-clause-solved g c =
    let bounds = c.args.bounds.now in
    let heights = c.climb.new.heights in
    let back = written_back c.in_ok-heights.heights.len heights c.in_ok-heights.heights.items (search rules)
    (search rules) in
    let zeros : c.as_mut_slice.result.now ≡ replicate c.assets.result 0 =
    c.as_mut_slice.ensures.value ∙ c.in_ok-heights.ensures.items_if_clones_equal (λ y e. e) in
    let long = ap (λ xs. length xs) zeros ∙ length-replicate c.assets.result 0 in
    let flow = c.in_ok-flow_of-in-None in
    rw (c.of.ensures, back)
    (record {
      same_assets = flow.ensures.assets;
      one_potential = omega (arith, c.climb.auto.heights, long, c.assets.ensures.assets);
      fits =
          same_fits bounds.assets (low_of bounds) (high_of bounds) (traded bounds c.climb.new.net.arcs)
          (value_of flow.field-0) (potential_of heights) flow.ensures.values c.in-None.ensures.fits;
    })

pub returns-clause-decided : goal.returns-clause-decided
returns-clause-decided g c =
    let bounds = c.args.bounds.now in
    let flow = c.in_ok-flow_of-in-None in
    c.dual_laws.ensures.greatest bounds.assets (low_of bounds) (high_of bounds) (value_of flow.field-0)
    (potential_of c.climb.new.heights)
    (same_fits bounds.assets (low_of bounds) (high_of bounds) (traded bounds c.climb.new.net.arcs)
    (value_of flow.field-0) (potential_of c.climb.new.heights) flow.ensures.values c.in-None.ensures.fits)

pub returns-clause-counted : goal.returns-clause-counted
returns-clause-counted g c =
    all_counted c.args.bounds.now c.assets.ensures.bounds c.greatest_high-most.result c.args.steps.now
    c.climb.new.steps c.greatest_high-most.ensures.least c.climb.ensures.counted

pub returns-clause-limited : goal.returns-clause-limited
returns-clause-limited g c =
    all_limited c.args.bounds.now c.assets.ensures.bounds c.greatest_high-most.result c.args.steps.now
    c.climb.new.steps c.greatest_high-most.ensures.least c.climb.ensures.counted
