use Rattle.std.proofs.Common.{subst}
use Rattle.sx_level.specs.Solved.{IsSolved}
use Rattle.sx_clear.proofs.TradeLaws.{no_cut}
use Rattle.sx_clear.proofs.trade.trade_freely.Goals as goal

pub unreachable-requires : goal.unreachable-requires
unreachable-requires g c =
    no_cut c.args.bounds.now c.in-Cut.field-0.0 c.requires.no_low
    (subst (IsSolved c.args.bounds.now) c.in-Cut.is c.in_ok-flow.ensures.solved)
