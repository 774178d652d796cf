use Rattle.std.proofs.Common.{◌≢◌, ◌<◌, length, refl, below_more, arith}
use Rattle.std.proofs.lemmas.Grind.{get_or-set_at}
use Rattle.std.proofs.lemmas.List.{get_or-set_other}
use Rattle.sx_circ.specs.Labels.{no_walk}
use Rattle.sx_circ.proofs.Labelling.{labels_start}
use Rattle.sx_dual.specs.Tables.{entry_at, high_of, low_of}
use Rattle.sx_circ.proofs.searching.lower.Goals as goal

pub loop-asset-preserved : goal.loop-asset-preserved
loop-asset-preserved c =
    let asset = c.loop-asset.asset in
    let walks = c.loop-asset.walks in
    let walk = c.stay.result in
    let within : asset < length walks = omega arith in
    below_more _ _
    (λ k lt.
    let other : k ≢ asset = omega arith in
    rw (get_or-set_other walks asset k walk no_walk other) (c.loop-asset.invariant k lt))
    (rw (get_or-set_at walks asset asset walk no_walk refl within) c.stay.ensures)

pub returns : goal.returns
returns c =
    let bounds = c.args.bounds.now in
    labels_start bounds.assets (low_of bounds) (high_of bounds) (entry_at bounds.assets c.args.values.now)
    c.loop-asset.walks (omega arith) (λ asset lt. c.loop-asset.invariant asset (omega arith))
