use Rattle.std.proofs.Common.{refl}
use Rattle.sx_block.specs.Rule as rule
use Rattle.sx_block.specs.Validity.{high_in, undropped_low_in}
use Rattle.sx_fill.proofs.SameBounds.{cut_back, cut_from}
use Rattle.sx_check.proofs.BoundLaws.{cut_holds, dropped_bounds}
use Rattle.sx_check.proofs.market.check_dropped.Goals as goal
use Rattle.sx_block.proofs.Rules.{one_more_but}
use Rattle.sx_ledger.specs.Ledger.{assets_of}

pub check_fit-requires-clause-bounds : goal.check_fit-requires-clause-bounds
check_fit-requires-clause-bounds c =
    let parts = c.args.ledger.now in
    let block = c.args.block.now in
    dropped_bounds parts block c.args.cut c.without_low.result c.requires.dropped
    (c.without_low.ensures (assets_of parts) (undropped_low_in parts block) (high_in parts block) c.requires.bounds)

pub returns-then-not-is_cut-clause-refused : goal.returns-then-not-is_cut-clause-refused
returns-then-not-is_cut-clause-refused c =
    let parts = c.args.ledger.now in
    let block = c.args.block.now in
    record {
      before = c.in_ok-check_fit.ensures.fits;
      breaks = (
        c.requires.dropped,
        λ is.
            let told = c.cuts-is_cut.ensures.exact.1
            (cut_back (assets_of parts) (undropped_low_in parts block) (high_in parts block) c.args.bounds
            c.requires.bounds c.args.cut.0 is) in
            let not = c.if-not-is_cut.true in
            absurd cc,
      );
      early = λ said real e. absurd cc;
      other = λ said real e. absurd cc;
    }

pub returns-clause-cut : goal.returns-clause-cut
returns-clause-cut c =
    let parts = c.args.ledger.now in
    let block = c.args.block.now in
    one_more_but parts block rule.Cut rule.Rounded refl c.in_ok-check_fit.ensures.fits
    (cut_holds parts block c.args.cut c.requires.dropped
    (cut_from (assets_of parts) (undropped_low_in parts block) (high_in parts block) c.args.bounds
    c.requires.bounds c.args.cut.0 (c.cuts-is_cut.ensures.exact.0 c.if-not-is_cut.false)))
