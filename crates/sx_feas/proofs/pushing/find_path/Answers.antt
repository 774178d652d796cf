use Rattle.std.proofs.Common.{ap}
use Rattle.std.proofs.lemmas.Bool.{OnTrue_at}
use Rattle.sx_feas.proofs.pushing.find_path.Goals as goal

pub returns-clause-path : goal.returns-clause-path
returns-clause-path g c =
    rw (ap (λ net. net.arcs) c.search.ensures.rest)
    (OnTrue_at (c.search.ensures.exact.1 c.requires.reaches) c.search.ensures.path)

pub returns-clause-passable : goal.returns-clause-passable
returns-clause-passable g c =
    rw (ap (λ net. net.arcs) c.search.ensures.rest)
    (OnTrue_at (c.search.ensures.exact.1 c.requires.reaches) c.search.ensures.passable)

pub returns-clause-kept : goal.returns-clause-kept
returns-clause-kept g c = OnTrue_at (c.search.ensures.exact.1 c.requires.reaches) c.search.ensures.kept
