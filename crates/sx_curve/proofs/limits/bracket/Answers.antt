use Rattle.std.proofs.Common.{◌+◌, refl, sym, ◌∙◌, arith}
use Rattle.sx_curve.proofs.BracketLaws.{above_from, below_through}
use Rattle.sx_curve.proofs.limits.bracket.Goals.{else-from-pair-via-else-from-pair}
use Rattle.sx_curve.proofs.limits.bracket.Goals.{else-from-pair-via-then-from-pair+else-is_below}
use Rattle.sx_curve.proofs.limits.bracket.Goals as goal

pub bracket_upward-requires-clause-below : goal.bracket_upward-requires-clause-below
bracket_upward-requires-clause-below c =
    below_through c.args.pair.now c.args.num c.args.den c.requires.in_order c.min-from.result (c.min-from.result + 1)
    c.index-pair-from.result c.if-from-pair.true c.index-pair-from.is (sym c.is_below.ensures ∙ c.if-is_below.true) refl

pub bracket_downward-requires-clause-above : goal.bracket_downward-requires-clause-above
bracket_downward-requires-clause-above c =
    elim c.else-from-pair.branch [
      | else-from-pair-via-then-from-pair+else-is_below w ↦
          above_from c.args.pair.now c.args.num c.args.den c.requires.in_order c.min-from.result
          w.index-pair-from.result w.if-from-pair.true w.index-pair-from.is
          (sym w.is_below.ensures ∙ w.if-is_below.false)
      | else-from-pair-via-else-from-pair w ↦ λ k d from to. absurd (omega (arith, w.if-from-pair.false))
    ]
