use Rattle.std.proofs.Common.{◌≡◌, ◌+◌, ◌*◌, ◌<◌, length, get_or, refl, sym, ap, ◌∙◌, arith}
use Rattle.sx_demand.specs.Table.{into_in, out_in, value_in}
use Rattle.sx_demand.proofs.RangeSums.{sum_more}
use Rattle.sx_demand.proofs.Columns.{entry_at_most, into_at_most, one_more, rest_stays}
use Rattle.sx_demand.proofs.sums.add_row.Goals as goal

pub loop-buy-init : goal.loop-buy-init
loop-buy-init c = record {
  row = refl;
  bound = omega arith;
  done = λ k d lt. absurd (omega arith);
  left = λ k d le lt. c.requires.columns k d lt;
}

pub overflow_add-columns : goal.overflow_add-columns
overflow_add-columns c =
    let entries = c.args.entries.now in
    let n = length c.args.columns.now in
    let sell = c.args.sell in
    let buy = c.loop-buy.buy in
    let inside : buy < n = omega arith in
    let old = c.loop-buy.invariant.left buy 0 (omega arith) inside in
    let most = into_at_most entries n c.requires.full c.requires.few c.requires.in_range sell buy (omega arith)
    inside in
    let entry = entry_at_most entries n c.requires.full c.requires.few c.requires.in_range sell buy (omega arith)
    inside in
    omega (arith, old, most, entry)

pub overflow_add-row : goal.overflow_add-row
overflow_add-row c =
    let n = length c.args.columns.now in
    let inside : c.loop-buy.buy < n = omega arith in
    omega (
      arith,
      c.loop-buy.invariant.bound,
      entry_at_most c.args.entries.now n c.requires.full c.requires.few
          c.requires.in_range c.args.sell c.loop-buy.buy (omega arith) inside,
    )

pub loop-buy-preserved : goal.loop-buy-preserved
loop-buy-preserved c =
    let entries = c.args.entries.now in
    let n = length c.args.columns.now in
    let sell = c.args.sell in
    let buy = c.loop-buy.buy in
    let columns = c.loop-buy.columns in
    let inside : buy < n = omega arith in
    let within : buy < length columns = omega arith in
    let value = value_in entries (sell * 32 + buy) in
    let sum : get_or columns buy 0 + value ≡ into_in entries (sell + 1) buy =
    ap (λ m. m + value) (c.loop-buy.invariant.left buy 0 (omega arith) inside)
    ∙ sym (sum_more (λ row. value_in entries (row * 32 + buy)) sell) in
    record {
      row = ap (λ m. m + value) c.loop-buy.invariant.row
          ∙ sym (sum_more (λ column. value_in entries (sell * 32 + column)) buy);
      bound = omega (
        arith,
        c.loop-buy.invariant.bound,
        entry_at_most entries n c.requires.full c.requires.few
            c.requires.in_range sell buy (omega arith) inside,
      );
      done = one_more (into_in entries (sell + 1)) columns buy (get_or columns buy 0 + value) within sum
          c.loop-buy.invariant.done;
      left = rest_stays (into_in entries sell) columns buy n (get_or columns buy 0 + value) c.loop-buy.invariant.left;
    }

pub returns-clause-row : goal.returns-clause-row
returns-clause-row c =
    let all : c.loop-buy.buy ≡ length c.args.columns.now = omega arith in
    c.loop-buy.invariant.row ∙ ap (λ m. out_in c.args.entries.now m c.args.sell) all

pub returns-clause-columns : goal.returns-clause-columns
returns-clause-columns c = λ k d lt. c.loop-buy.invariant.done k d (omega arith)
