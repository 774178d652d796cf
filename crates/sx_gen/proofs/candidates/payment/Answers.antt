use Rattle.sx_gen.specs.Drawing.{word_after}
use Rattle.sx_gen.proofs.Words.{before_any, one_later, drawn_at, is_payment, unwrapped}
use Rattle.sx_gen.proofs.candidates.payment.Goals as goal

pub returns-clause-kind : goal.returns-clause-kind
returns-clause-kind c =
    let state = c.args.generator.now in
    let zero = before_any state in
    let one = one_later 0 state _ _ zero c.draw.ensures.after in
    let two = one_later 1 state _ _ one c.draw-2.ensures.after in
    is_payment (word_after state) c.draw.result c.draw-2.result c.draw-3.result _ _
    (drawn_at 0 state _ _ _ zero c.draw.ensures.drawn)
    (drawn_at 1 state _ _ _ one c.draw-2.ensures.drawn)
    (drawn_at 2 state _ _ _ two c.draw-3.ensures.drawn)
    c.asset-asset.ensures (unwrapped c.new.result _ _ c.unwrap-amount.ensures c.new.ensures.value)

pub returns-clause-after : goal.returns-clause-after
returns-clause-after c =
    let state = c.args.generator.now in
    let one = one_later 0 state _ _ (before_any state) c.draw.ensures.after in
    let two = one_later 1 state _ _ one c.draw-2.ensures.after in
    one_later 2 state _ _ two c.draw-3.ensures.after
