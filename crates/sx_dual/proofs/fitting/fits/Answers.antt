use Rattle.sx_dual.specs.Tables.{high_of, low_of, potential_of, value_of}
use Rattle.sx_dual.proofs.Duality.{fit_is_greatest}
use Rattle.sx_dual.proofs.Passes.{fits_from}
use Rattle.sx_dual.proofs.fitting.fits.Goals as goal

pub returns-clause-greatest : goal.returns-clause-greatest
returns-clause-greatest c =
    let n = c.args.bounds.now.assets in
    let low = low_of c.args.bounds.now in
    let high = high_of c.args.bounds.now in
    let y = value_of c.args.flow.now in
    let potential = potential_of c.args.potentials.now in
    fit_is_greatest n low high y potential
    (fits_from n c.args.flow.now.assets low high y potential c.requires.flow c.in_default.ensures.none
    c.in_default-first_unbalanced.ensures.none c.in_default-first_slack.ensures.none)
