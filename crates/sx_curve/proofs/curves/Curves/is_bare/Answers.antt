use Rattle.std.proofs.lemmas.Bool.{eqb-true}
use Rattle.sx_curve.proofs.Bare.{bare}
use Rattle.sx_curve.proofs.curves.Curves.is_bare.Goals as goal

pub returns : goal.returns
returns c = λ same.
    bare c.args.self.now.quotes c.args.sell c.args.buy c.ends_of-begin.result.0 c.ends_of-begin.result.1
    c.ends_of-begin.ensures.range (eqb-true _ _ same)
