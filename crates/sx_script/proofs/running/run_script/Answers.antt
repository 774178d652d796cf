use Rattle.std.proofs.Common.{◌≡◌, List, ◌∙◌, ap, subst, sym}
use Rattle.std.specs.Prelude.{IfOk}
use Rattle.sx_outcome.specs.declared.outcome.Outcome.{Outcome}
use Rattle.sx_outcome.specs.Gathering.{IsGathered, body_of, decisions}
use Rattle.sx_outcome.specs.Outcomes.{AreOutcomes}
use Rattle.sx_layout.specs.Plan.{plan_of}
use Rattle.sx_script.specs.Running.{outcomes_of_run}
use Rattle.sx_layout.specs.Setting.{Setting}
use Rattle.sx_script.proofs.Openings.{if_ok}
use Rattle.sx_script.proofs.RunCloses.{run_gathers}
use Rattle.sx_script.proofs.RunForm.{outcomes_keep_form}
use Rattle.sx_script.proofs.running.run_script.Goals as goal

pub outcomes_in-requires-clause-own : goal.outcomes_in-requires-clause-own
outcomes_in-requires-clause-own c = ap (λ (s : Setting). s.candidates) (sym c.in_ok-setting.ensures.setting)

pub outcomes_in-requires-clause-plan : goal.outcomes_in-requires-clause-plan
outcomes_in-requires-clause-plan c =
    ap (λ (s : Setting). s.plan) c.in_ok-setting.ensures.setting
    ∙ ap (λ (s : Setting). plan_of s.parts s.candidates 1) (sym c.in_ok-setting.ensures.setting)

pub returns : goal.returns
returns c =
    let parts = c.args.ledger.now in
    let candidates = c.args.candidates.now in
    let said = outcomes_of_run parts candidates c.args.actors c.args.turns.now in
    let exact : IfOk c.outcomes_in.result (λ outcomes. outcomes ≡ said) =
    if_ok c.outcomes_in.result _ _
    (λ outcomes is. is
    ∙ ap (λ (s : Setting). outcomes_of_run s.parts s.candidates c.args.actors c.args.turns.now)
    c.in_ok-setting.ensures.setting)
    c.outcomes_in.ensures in
    record {
      exact = exact;
      form = λ form.
          if_ok c.outcomes_in.result _ _
          (λ outcomes same. subst AreOutcomes (sym same)
          (outcomes_keep_form parts candidates c.args.actors c.args.turns.now form))
          exact;
      gathers = λ form room.
          if_ok c.outcomes_in.result _ _
          (λ outcomes same. subst
          (λ (list : List Outcome). IsGathered parts candidates list (body_of (decisions candidates list))) (sym same)
          (run_gathers parts candidates c.args.actors c.args.turns.now c.in_ok-setting.ensures.laid_out.ledger form
          room c.requires.few_actors))
          exact;
    }
