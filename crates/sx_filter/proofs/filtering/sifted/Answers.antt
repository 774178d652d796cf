use Rattle.std.proofs.Common.{subst}
use Rattle.std.proofs.lemmas.Result.{IfOk-weaker}
use Rattle.sx_filter.specs.SiftedRanges.{AreSiftedRanges}
use Rattle.sx_filter.specs.Joined.{AreSiftedParts}
use Rattle.sx_filter.proofs.RangesSifted.{ranges_sifted}
use Rattle.sx_filter.proofs.filtering.sifted.Goals as goal

pub returns : goal.returns
returns g c = λ candidates is.
    let ledger = c.args.ledger.now in
    let prepared = c.args.prepared in
    IfOk-weaker c.sifted_ranges.result _ (λ all. AreSiftedParts ledger candidates all.items)
    (λ all are. ranges_sifted ledger candidates prepared all.items is
    (subst (λ cuts. AreSiftedRanges ledger cuts prepared.parts.items all.items) c.deref-2.ensures.value
    (subst (λ parts. AreSiftedRanges ledger c.deref-2.result.now parts all.items) c.deref.ensures.value are)))
    c.sifted_ranges.ensures
