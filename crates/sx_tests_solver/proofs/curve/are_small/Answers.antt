use Rattle.std.proofs.Common.{subst}
use Rattle.std.proofs.lemmas.Bool.{OnTrue_at}
use Rattle.std.proofs.lemmas.List.Elements.{All-more}
use Rattle.sx_tests_solver.proofs.SmallMarket.{IsSmall}
use Rattle.sx_tests_solver.proofs.curve.are_small.Goals as goal

pub loop-quote-preserved : goal.loop-quote-preserved
loop-quote-preserved c =
    All-more IsSmall c.args.quotes.now c.loop-quote.quote-index c.quote-item.result c.loop-quote-test.true
    c.loop-quote.invariant
    (subst IsSmall c.quote-item.is (OnTrue_at c.if-not-small.false c.is_small-small.ensures))
