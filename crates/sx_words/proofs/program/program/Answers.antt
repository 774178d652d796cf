use Rattle.std.proofs.Common.{◌∙◌, ap₂}
use Rattle.std.proofs.lemmas.Result.{IfOk-weaker}
use Rattle.clap.specs.Words.{App, with_subcommand}
use Rattle.sx_words.proofs.program.program.Goals as goal

pub returns : goal.returns
returns c =
    let add = λ (above sub : App). with_subcommand above sub.top in
    let seal = c.in_ok-program.ensures ∙ ap₂ add c.new.ensures.app c.in_ok-seal.ensures.1 in
    let replay = c.in_ok-program-2.ensures ∙ ap₂ add seal c.in_ok-with_workers.ensures.1 in
    let check = c.in_ok-program-3.ensures ∙ ap₂ add replay c.new-2.ensures.app in
    let show = c.in_ok-program-4.ensures ∙ ap₂ add check c.new-3.ensures.app in
    let interleave = c.in_ok-program-5.ensures ∙ ap₂ add show c.new-4.ensures.app in
    let migrate = c.in_ok-program-6.ensures ∙ ap₂ add interleave c.new-5.ensures.app in
    let filter = c.in_ok-program-7.ensures ∙ ap₂ add migrate c.in_ok-with_workers-2.ensures.1 in
    let prove = c.in_ok-program-8.ensures ∙ ap₂ add filter c.in_ok-prove.ensures.1 in
    let verify = c.in_ok-program-9.ensures ∙ ap₂ add prove c.new-6.ensures.app in
    let follow = c.in_ok-program-10.ensures ∙ ap₂ add verify c.new-7.ensures.app in
    IfOk-weaker c.above-11.result _ _ (λ made is. is ∙ ap₂ add follow c.in_ok-demo.ensures.1) c.above-11.ensures
