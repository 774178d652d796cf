use Rattle.std.proofs.Common.{◌≡◌, below_more, eqb, true, sym, ◌∙◌}
use Rattle.std.proofs.lemmas.Bool.{eqb-true, not-false}
use Rattle.sx_dual.proofs.fitting.slack_from.Goals as goal
use Rattle.sx_dual.proofs.fitting.slack_from.Goals.{else-ne-via-then-ne+else-not-is_tight, else-ne-via-else-ne}

pub loop-number-preserved : goal.loop-number-preserved
loop-number-preserved c =
    below_more _ _ c.loop-number.invariant
    (elim c.else-ne.branch [
      | else-ne-via-then-ne+else-not-is_tight w ↦ λ different. rw c.asset_of-buy.ensures at
          (w.is_tight.ensures.0 w.if-not-is_tight.false)
      | else-ne-via-else-ne w ↦
          let same : eqb c.args.sell c.asset_of-buy.result ≡ true = not-false _ (sym c.ne.ensures ∙ w.if-ne.false) in
          λ different. absurd (different (eqb-true _ _ same ∙ c.asset_of-buy.ensures))
    ])
