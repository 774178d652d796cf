use Rattle.std.proofs.Common.{◌≡◌, ◌∙◌, ap, length, arith}
use Rattle.sx_script.specs.Running.{Run, all_to_end, done_of_run}
use Rattle.sx_script.proofs.Openings.{if_ok}
use Rattle.sx_script.proofs.running.run.Goals as goal

pub returns : goal.returns
returns c =
    let s = c.args.setting.now in
    let size : length c.all_turns.new.hands ≡ length c.args.hands.now = omega (arith, c.all_turns.auto.hands) in
    if_ok c.all_done.result _ _
    (λ outcomes is. is
    ∙ ap (λ (run : Run). done_of_run run)
    (c.in_ok-all_to_end.ensures.exact
    ∙ (λ i. all_to_end s.parts s.plan (size i) (c.in_ok-all_turns.ensures.exact i))))
    c.all_done.ensures
