use Rattle.std.proofs.Common.{◌≡◌, ℕ, ◌+◌, ◌-◌, ◌*◌, ◌<◌, ◌++◌, List, [], ◌∷◌, min, take, ap, ap₂, ◌∙◌, append_assoc}
use Rattle.std.proofs.Common.{arith, rules}
use Rattle.sx_fill.specs.PairFills.{pair_fill, trading}
use Rattle.sx_fill.proofs.PairOrder.{all_filled, less_left, more_filled, some_value}
use Rattle.sx_fill.proofs.pair.push_fills.Goals as goal
use Rattle.sx_ledger.specs.declared.fill.Fill.{Fill}

pub returns-then-left-eq0-clause-appended : goal.returns-then-left-eq0-clause-appended
returns-then-left-eq0-clause-appended c =
    c.loop-place.invariant.fills
    ∙ ap (λ (fs : List Fill). c.args.fills.now.items ++ fs)
    (all_filled c.args.sell c.args.buy c.args.y c.args.first c.args.offers.now c.requires.in_book_order
    c.loop-place.place c.loop-place.left c.loop-place.invariant.left c.if-left-eq0.true)

pub loop-place-preserved : goal.loop-place-preserved
loop-place-preserved c =
    let k = c.loop-place.place in
    let x = c.index-offers-place.result in
    let left = c.loop-place.left in
    let here = c.get-in-loop-place.ensures in
    let price : c.from-price.result ≡ c.args.sell = search rules in
    let amount : c.from.result ≡ x.amount = search rules in
    let value : c.min-traded.result ≡ min left (c.args.sell * x.amount) =
    c.min-traded.ensures ∙ ap₂ (λ (p a : ℕ). min left (p * a)) price amount in
    let some : 0 < c.min-traded.result =
    some_value left c.args.sell x.amount c.min-traded.result (omega arith) (omega arith) (omega arith) value in
    let at = c.loop-place.invariant in
    let fill : Fill = record {
      place = c.args.first + k;
      value = c.min-traded.result;
      gives = c.given_for.result;
      gets = c.got_for.result;
    } in
    let before : List Fill =
    trading (pair_fill c.args.sell c.args.buy c.args.y c.args.offers.now) c.args.first (take k c.args.offers.now) in
    let pushed : c.push.new.self.items ≡ c.loop-place.fills.items ++ fill ∷ [] = c.in_ok-push.ensures.items in
    record {
      fills = pushed ∙ ap (λ (fs : List Fill). fs ++ fill ∷ []) at.fills
          ∙ append_assoc c.args.fills.now.items before (fill ∷ [])
          ∙ ap (λ (fs : List Fill). c.args.fills.now.items ++ fs)
          (more_filled c.args.sell c.args.buy c.args.y c.args.first c.args.offers.now c.requires.in_book_order k
          left c.min-traded.result c.given_for.result c.got_for.result x c.loop-place-test.true
          c.index-offers-place.is at.left some value c.given_for.ensures c.got_for.ensures);
      left = ap (λ (v : ℕ). left - v) value
          ∙ less_left c.args.sell c.args.buy c.args.y c.args.first c.args.offers.now c.requires.in_book_order k left
          x c.loop-place-test.true c.index-offers-place.is at.left;
    }
