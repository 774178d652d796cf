use Rattle.std.proofs.Common.{subst}
use Rattle.sx_filter.specs.Indexed.{IsIndexOf}
use Rattle.sx_filter.proofs.indexed.IndexedLedger.whole.Goals as goal

pub returns-clause-index : goal.returns-clause-index
returns-clause-index g c =
    c.in_ok-index.ensures c.args.self
    (subst (λ parts. IsIndexOf parts c.self.inside.index) c.self.view_is c.self.invariant)
