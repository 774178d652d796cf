use Rattle.sx_tests_solver.proofs.Alike.{alike_market}
use Rattle.sx_tests_solver.proofs.search.alike.Goals as goal

pub build-requires : goal.build-requires
build-requires c =
    rw (c.in_ok-quotes.ensures.items_if_clones_equal (λ y same. same))
    (alike_market c.args.quote c.args.count c.requires.among c.requires.one c.requires.count)
