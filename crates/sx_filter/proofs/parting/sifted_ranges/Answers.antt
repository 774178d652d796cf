use Rattle.std.proofs.Common.{◌≡◌, Ok, map, arith}
use Rattle.std.proofs.lemmas.Result.{IfOk-weaker}
use Rattle.sx_filter.specs.SiftedRanges.{AreSiftedRanges}
use Rattle.sx_filter.specs.ByRange.{pieces}
use Rattle.sx_filter.specs.Sifted.{IsSifted}
use Rattle.sx_filter.proofs.Results.{as_many, found_each}
use Rattle.sx_filter.proofs.parting.sifted_ranges.Goals as goal

pub returns : goal.returns
returns g c =
    let ledger = c.args.ledger.now in
    let parts = c.args.parts.now in
    let results = c.in_ok-results.results in
    IfOk-weaker c.all_of.result (λ all. results.items ≡ map Ok all.items)
    (λ all. AreSiftedRanges ledger c.args.cuts.now parts all.items)
    (λ all e. record {
      long = omega (arith, as_many results.items all.items e, c.in_ok-results.ensures.len, results.ok);
      each = found_each results.items all.items e (λ range one. IsSifted ledger (pieces range parts) one)
          (λ i d lt. (c.in_ok-results.ensures.each i d (omega (arith, lt, c.in_ok-results.ensures.len, results.ok))).1.met);
    })
    c.all_of.ensures
