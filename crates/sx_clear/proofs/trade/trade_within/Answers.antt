use Rattle.std.proofs.Common.{refl, subst}
use Rattle.std.proofs.lemmas.Result.{IfOk-weaker}
use Rattle.sx_clear.proofs.SearchCounts.{asked, asked_once, asked_twice}
use Rattle.sx_clear.proofs.TradeLaws.{dropped_trade, kept_trade, no_low, own_bounds}
use Rattle.sx_clear.proofs.trade.trade_within.Goals as goal
use Rattle.sx_dual.specs.Tables.{high_of, low_of}
use Rattle.sx_level.specs.Solved.{IsSolved, most_searches}

pub trade_freely-requires : goal.trade_freely-requires
trade_freely-requires g c =
    let bounds = c.args.bounds in
    record {
      no_low = no_low bounds.assets (high_of bounds) c.without_low.result
          (c.without_low.ensures bounds.assets (low_of bounds) (high_of bounds) (own_bounds bounds));
    }

pub returns-in-Best-clause-traded : goal.returns-in-Best-clause-traded
returns-in-Best-clause-traded g c = λ n low high has.
    kept_trade n low high c.args.bounds _ has (subst (IsSolved c.args.bounds) c.in-Best.is c.in_ok-flow.ensures.solved)
    refl

pub returns-in-Best-clause-counted : goal.returns-in-Best-clause-counted
returns-in-Best-clause-counted g c = λ n low high b has digits.
    let old = c.args.steps.now in
    let new = c.solve.new.steps in
    asked_once (most_searches n b) old new
    (asked n low high c.args.bounds b old new has digits (c.solve.ensures.counted b))

pub returns-in-Cut-clause-traded : goal.returns-in-Cut-clause-traded
returns-in-Cut-clause-traded g c =
    let cut = c.in-Cut.cut in
    let is = subst (IsSolved c.args.bounds) c.in-Cut.is c.in_ok-flow.ensures.solved in
    IfOk-weaker c.trade_freely-in-Cut.result _ _
    (λ trade traded n low high has.
    dropped_trade n low high c.args.bounds c.without_low.result trade cut has
    (c.without_low.ensures n low high has) is traded) c.trade_freely-in-Cut.ensures.traded

pub returns-in-Cut-clause-counted : goal.returns-in-Cut-clause-counted
returns-in-Cut-clause-counted g c = λ n low high b has digits.
    let old = c.args.steps.now in
    let middle = c.solve.new.steps in
    let new = c.trade_freely-in-Cut.new.steps in
    asked_twice (most_searches n b) old middle new
    (asked n low high c.args.bounds b old middle has digits (c.solve.ensures.counted b))
    (asked n (λ sell buy. 0) high c.without_low.result b middle new (c.without_low.ensures n low high has) digits
    (c.trade_freely-in-Cut.ensures.counted b))
