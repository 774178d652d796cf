use Rattle.std.proofs.Common.{refl, sym, subst, ◌∙◌, arith}
use Rattle.sx_block.specs.Validity.{flow_of_block, high_in, low_in}
use Rattle.sx_block.specs.Refusals.{RefusesButParent}
use Rattle.sx_fill.proofs.SameBounds.{fits_from, misfit_from}
use Rattle.sx_block.proofs.MarketLaws.{fit_holds, misfit_refuses}
use Rattle.sx_check.proofs.OfferLaws.{flow_assets, one_potential}
use Rattle.sx_check.proofs.market.check_fit.Goals as goal
use Rattle.sx_dual.specs.Tables.{potential_of}
use Rattle.sx_ledger.specs.Ledger.{assets_of}

pub fits-requires-clause-flow : goal.fits-requires-clause-flow
fits-requires-clause-flow c =
    flow_assets c.args.ledger.now c.args.block.now c.requires.form (λ r lt. c.requires.body r (omega arith))
    ∙ sym c.requires.bounds.same_assets

pub fits-requires-clause-potentials : goal.fits-requires-clause-potentials
fits-requires-clause-potentials c =
    one_potential c.args.ledger.now c.args.block.now c.requires.form (λ r lt. c.requires.body r (omega arith))
    ∙ sym c.requires.bounds.same_assets

pub returns-in-Err-clause-refused : goal.returns-in-Err-clause-refused
returns-in-Err-clause-refused c =
    let parts = c.args.ledger.now in
    let block = c.args.block.now in
    let misfit = c.in-Err.misfit in
    subst (RefusesButParent parts block) (sym c.from.ensures)
    (misfit_refuses parts block misfit c.requires.body
    (misfit_from (assets_of parts) (low_in parts block) (high_in parts block) c.args.bounds.now c.requires.bounds
    (flow_of_block block) (potential_of block.header.potentials) misfit c.in-Err.ensures.misfit))

pub returns-in-Ok-clause-fits : goal.returns-in-Ok-clause-fits
returns-in-Ok-clause-fits c =
    let parts = c.args.ledger.now in
    let block = c.args.block.now in
    fit_holds parts block c.requires.body
    (fits_from (assets_of parts) (low_in parts block) (high_in parts block) c.args.bounds.now c.requires.bounds
    (flow_of_block block) (potential_of block.header.potentials) (c.in-Ok.ensures.exact.0 refl))
