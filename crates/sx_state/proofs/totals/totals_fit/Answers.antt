use Rattle.std.proofs.Common.{◌≡◌, length, ◌∙◌, rules}
use Rattle.sx_ledger.specs.Ledger.{assets_of}
use Rattle.sx_state.proofs.TotalsInRange.{totals_fit_is}
use Rattle.sx_state.proofs.totals.totals_fit.Goals as goal

pub returns : goal.returns
returns g c =
    let as_many : length c.add_all.new.totals ≡ assets_of c.args.parts.now =
    c.add_all.ensures.as_many ∙ search rules in
    c.are_in_range.ensures
    ∙ totals_fit_is c.args.parts.now c.add_all.new.totals (assets_of c.args.parts.now)
    as_many c.add_all.ensures.totals
