use Rattle.std.proofs.Common.{◌<◌, ◌≢◌, length, pos, ◌∙◌, below_more, get_or-set_other, get_or-set_same, rules, arith}
use Rattle.std.specs.Prelude.{slice_index, slice_index_or}
use Rattle.std.specs.Int.{w128}
use mir.Val.{SFits}
use Rattle.std.proofs.lemmas.Int.{to_z-of_z}
use Rattle.std.proofs.lemmas.List.{get_or_read}
use Rattle.std.proofs.lemmas.List.FromFn.{fill_by_all}
use Rattle.sx_curve.specs.Demand.{price_of}
use Rattle.sx_curve.specs.Search.{moved_price}
use Rattle.sx_search.proofs.trial.write_trial.Goals as goal

pub loop-asset-preserved : goal.loop-asset-preserved
loop-asset-preserved c =
    let asset = c.loop-asset.asset in
    let price = get_or_read c.args.prices.now asset c.index-prices-asset.result (omega arith)
    c.index-prices-asset.is 0 in
    below_more _ _
    (λ k lt d. let other : k ≢ asset = omega arith in rw get_or-set_other (c.loop-asset.invariant k lt d))
    (λ d. let inside : asset < length c.loop-asset.trial = omega arith in
    let net : SFits w128 (slice_index_or c.args.nets.now asset (pos 0)) = search rules in
    rw get_or-set_same
    (c.moved.ensures
    ∙ (λ i. moved_price c.args.exponent (price i) (to_z-of_z w128 (slice_index_or c.args.nets.now asset (pos 0)) net i)
    (slice_index c.args.volumes.now asset))))

pub returns : goal.returns
returns c =
    let n = length c.args.prices.now in
    fill_by_all
    (λ asset. moved_price c.args.exponent (price_of c.args.prices.now asset)
    (slice_index_or c.args.nets.now asset (pos 0)) (slice_index c.args.volumes.now asset))
    c.loop-asset.trial n 0 (omega arith)
    (λ k lt. c.loop-asset.invariant k (omega arith) 0)
