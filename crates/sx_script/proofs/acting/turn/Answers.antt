use Rattle.std.proofs.Common.{[], subst}
use Rattle.std.proofs.lemmas.List.{get_or_default}
use Rattle.sx_script.specs.Actors.{Actor, beginning}
use Rattle.sx_script.specs.RunKeeps.{ActorFits}
use Rattle.sx_script.proofs.Openings.{turn_fits}
use Rattle.sx_script.proofs.acting.turn.Goals as goal

pub act-requires-clause-fits : goal.act-requires-clause-fits
act-requires-clause-fits c =
    subst (λ (a : Actor). ActorFits c.args.setting.now.candidates c.args.core.now.state c.args.name a)
    (get_or_default c.args.hands.now c.args.name (beginning [] []) c.index-hands-name.result c.if-name-hands.true)
    (c.requires.actors c.args.name c.if-name-hands.true)

pub returns-in_ok-act-clause-fit : goal.returns-in_ok-act-clause-fit
returns-in_ok-act-clause-fit c =
    turn_fits c.args.setting.now.candidates c.args.setting.now.plan c.args.core.now.state c.act.new.core.state
    c.args.hands.now c.args.name c.act.new.hand c.if-name-hands.true c.in_ok-act.ensures.words
    c.in_ok-act.ensures.fits c.in_ok-act.ensures.others c.requires.actors
