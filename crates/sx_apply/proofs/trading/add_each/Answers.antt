use Rattle.std.proofs.Common.{◌≡◌, ◌<◌, length, sym, ◌∙◌, arith}
use Rattle.std.proofs.lemmas.Grind.{same_number_lists}
use Rattle.sx_apply.proofs.trading.add_each.Goals as goal
use Rattle.sx_block.proofs.TradeTotals.{added_at, added_length}
use Rattle.sx_ledger.specs.Trade.{added}

pub returns : goal.returns
returns c =
    let numbers = c.args.numbers.now in
    let more = c.args.more.now in
    let long : length (added numbers more) ≡ length numbers = added_length numbers more c.requires.as_many in
    same_number_lists c.loop-place.numbers (added numbers more) (c.loop-place.auto.numbers ∙ sym long)
    (λ k lt. let below : k < length numbers = omega (arith, c.loop-place.auto.numbers) in
    c.loop-place.invariant.done k (omega (arith, c.loop-place-test.false)) ∙
    sym (added_at k numbers more below c.requires.as_many))
