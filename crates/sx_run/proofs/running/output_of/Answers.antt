use Rattle.std.proofs.Common.{ℕ, List, Result, sym, subst}
use Rattle.sx_input.specs.declared.stop.Stop.{Stop}
use Rattle.sx_input.specs.Found.{Found}
use Rattle.sx_run.proofs.running.output_of.Goals as goal
use Rattle.sx_words.specs.declared.command.Command.TheVariants.{Demo, Replay}

pub returns-in-Replay-clause-found : goal.returns-in-Replay-clause-found
returns-in-Replay-clause-found g c =
    rw c.in-Replay.is (subst (λ (r : Result (List ℕ) Stop). Found (Replay c.in-Replay.workers)
    (g.S.Source.left c.args.source.now) (g.S.Source.left c.replay.new.source) r) (sym c.recorded.ensures)
    (c.replay.ensures.found c.in-Replay.workers))

pub returns-in-Demo-clause-found : goal.returns-in-Demo-clause-found
returns-in-Demo-clause-found g c =
    rw c.in-Demo.is (subst (λ (r : Result (List ℕ) Stop). Found (Demo c.in-Demo.number c.in-Demo.workers)
    (g.S.Source.left c.args.source.now) (g.S.Source.left c.args.source.now) r) (sym c.told-in-Demo.ensures)
    (c.demonstrate.ensures.found (g.S.Source.left c.args.source.now)))
