use Rattle.sx_gen.specs.Drawing.{word_after}
use Rattle.sx_gen.proofs.Words.{before_any, one_later, drawn_at, is_offer, unwrapped}
use Rattle.sx_gen.proofs.candidates.offer.Goals as goal

pub returns-clause-kind : goal.returns-clause-kind
returns-clause-kind c =
    let state = c.args.generator.now in
    let zero = before_any state in
    let one = one_later 0 state _ _ zero c.draw-sell.ensures.after in
    let two = one_later 1 state _ _ one c.draw.ensures.after in
    let three = one_later 2 state _ _ two c.draw-amount.ensures.after in
    is_offer (word_after state) c.draw-sell.result c.draw.result c.draw-amount.result c.draw-thousandths.result _ _ _ _
    (drawn_at 0 state _ _ _ zero c.draw-sell.ensures.drawn)
    (drawn_at 1 state _ _ _ one c.draw.ensures.drawn)
    (drawn_at 2 state _ _ _ two c.draw-amount.ensures.drawn)
    (drawn_at 3 state _ _ _ three c.draw-thousandths.ensures.drawn)
    c.asset.ensures c.asset-2.ensures c.limit.ensures (unwrapped c.new.result _ _ c.unwrap.ensures c.new.ensures.value)

pub returns-clause-after : goal.returns-clause-after
returns-clause-after c =
    let state = c.args.generator.now in
    let one = one_later 0 state _ _ (before_any state) c.draw-sell.ensures.after in
    let two = one_later 1 state _ _ one c.draw.ensures.after in
    let three = one_later 2 state _ _ two c.draw-amount.ensures.after in
    one_later 3 state _ _ three c.draw-thousandths.ensures.after
