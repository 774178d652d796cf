use Rattle.std.proofs.Common.{◌≡◌, ◌+◌, ◌^◌, ◌<◌, ◌∙◌, get_or, length, arith}
use Rattle.std.proofs.lemmas.List.{length-set}
use Rattle.sx_tally.proofs.SumUnits.{index_is, room_in_sum, sum_more}
use Rattle.sx_tally.proofs.units.add_wide.Goals as goal

pub overflow_add-sums : goal.overflow_add-sums
overflow_add-sums c =
    let k = c.loop-k.k in
    let entry = c.index-entries-k.result in
    let entries = c.args.entries.now in
    let rows = c.args.rows.now in
    let can = c.requires in
    let lt = c.loop-k-test.true in
    let asset : c.from.result ≡ entry.asset = c.from.ensures ∙ c.get.ensures.value in
    let units : c.from-in-loop-k.result ≡ entry.amount = c.from-in-loop-k.ensures ∙ c.get-in-loop-k.ensures.value in
    let at = get_or rows k 0 + c.from.result in
    let at_is : at ≡ get_or rows k 0 + entry.asset = omega (arith, asset) in
    let index = index_is entries rows k entry can.one_each lt c.index-entries-k.is at at_is in
    let within : at < length c.args.sums.now = omega (arith, index, can.within k entry lt) in
    let fits = rw index at (can.fits k entry lt) in
    omega (
      arith,
      units,
      c.loop-k.invariant.each at within,
      room_in_sum entries rows k entry can.one_each lt c.index-entries-k.is at at_is (get_or c.args.sums.now at 0)
          (2 ^ 128) fits,
    )

pub loop-k-preserved : goal.loop-k-preserved
loop-k-preserved c =
    let k = c.loop-k.k in
    let entry = c.index-entries-k.result in
    let entries = c.args.entries.now in
    let rows = c.args.rows.now in
    let can = c.requires in
    let lt = c.loop-k-test.true in
    let sums = c.loop-k.sums in
    let asset : c.from.result ≡ entry.asset = c.from.ensures ∙ c.get.ensures.value in
    let units : c.from-in-loop-k.result ≡ entry.amount = c.from-in-loop-k.ensures ∙ c.get-in-loop-k.ensures.value in
    let at = get_or rows k 0 + c.from.result in
    let at_is : at ≡ get_or rows k 0 + entry.asset = omega (arith, asset) in
    let index = index_is entries rows k entry can.one_each lt c.index-entries-k.is at at_is in
    let within : at < length c.args.sums.now = omega (arith, index, can.within k entry lt) in
    let after = get_or sums at 0 + c.from-in-loop-k.result in
    record {
      as_many = length-set sums at after ∙ c.loop-k.invariant.as_many;
      each = sum_more entries rows k entry can.one_each lt c.index-entries-k.is at at_is c.args.sums.now sums after
          c.loop-k.invariant.as_many within c.loop-k.invariant.each (omega (arith, units));
    }
