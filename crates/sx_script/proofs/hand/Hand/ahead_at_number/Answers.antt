use Rattle.std.proofs.Common.{sym, subst}
use Rattle.std.specs.List.{All, Contains}
use Rattle.sx_script.specs.Actors.{Actor}
use Rattle.sx_script.proofs.hand.Hand.ahead_at_number.Goals as goal

pub first_ahead-requires-clause-own : goal.first_ahead-requires-clause-own
first_ahead-requires-clause-own c =
    c.in_ok-left.ensures.own
    (subst (λ (a : Actor). All (Contains c.args.setting.now.candidates) a.left) (sym c.self.view_is) c.requires.own)

pub returns-in-Some-clause-own : goal.returns-in-Some-clause-own
returns-in-Some-clause-own c =
    c.in_ok-left.ensures.own
    (subst (λ (a : Actor). All (Contains c.args.setting.now.candidates) a.left) (sym c.self.view_is) c.requires.own)
