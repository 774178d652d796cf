use Rattle.std.proofs.Common.{refl}
use Rattle.std.specs.Prelude.{nat_eq}
use Rattle.std.proofs.lemmas.Bool.{eq-eqb, eqb-true}
use Rattle.sx_ledger.specs.Repeats.{creates}
use Rattle.sx_tally.proofs.Repeated.{distinct_from_none, when_none}
use Rattle.sx_tally.proofs.tally.Tally.created_again.Goals as goal

pub returns-clause-none : goal.returns-clause-none
returns-clause-none c = λ parts txs tally.
    when_none c.args.self.now.creations.again
    (distinct_from_none creates nat_eq (λ x y e. eqb-true x y e) (λ x. eq-eqb x x refl) txs) tally.created.again.none
