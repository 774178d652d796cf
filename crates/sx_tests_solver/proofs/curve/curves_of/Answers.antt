use Rattle.std.proofs.lemmas.Bool.{OnTrue_at}
use Rattle.sx_tests_solver.proofs.SmallMarket.{small_market}
use Rattle.sx_tests_solver.proofs.curve.curves_of.Goals as goal

pub build-requires : goal.build-requires
build-requires c =
    rw (c.in-Ok.ensures.items_if_clones_equal (λ x y same. same))
    (small_market c.args.quotes.now c.if-quotes-gt8.false (OnTrue_at c.if-not-small.false c.are_small-small.ensures))
