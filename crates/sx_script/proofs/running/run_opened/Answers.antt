use Rattle.std.proofs.Common.{◌≡◌, ◌≤◌, List, ◌∙◌, ap, length, max, subst, arith}
use Rattle.sx_script.specs.Actors.{Actor, all_starting}
use Rattle.sx_script.proofs.Openings.{how_many, if_ok, opened_outcomes, opening_fits}
use Rattle.sx_script.proofs.running.run_opened.Goals as goal
use Rattle.sx_tx.specs.declared.tx.Tx.{Tx}

pub run-requires-clause-few : goal.run-requires-clause-few
run-requires-clause-few c =
    let made = c.deref_mut.ensures.value ∙ c.in_ok-hands.ensures in
    let size : length c.deref_mut.result.now ≡ c.args.n =
    ap (λ (h : List Actor). length h) made ∙ how_many c.args.candidates.now c.args.n in
    omega (arith, size, c.requires.few)

pub run-requires-clause-fit : goal.run-requires-clause-fit
run-requires-clause-fit c =
    let n = c.args.n in
    opening_fits c.args.setting.now n c.args.core.now.state c.deref_mut.result.now c.requires.some
    (subst (λ (list : List Tx). n ≤ max 1 (length list)) c.requires.own c.requires.enough) c.requires.opening
    (c.deref_mut.ensures.value ∙ c.in_ok-hands.ensures ∙ ap (λ (list : List Tx). all_starting list n) c.requires.own)

pub returns : goal.returns
returns c =
    let n = c.args.n in
    if_ok c.run.result _ _
    (λ outcomes is. is
    ∙ opened_outcomes c.args.setting.now n c.args.turns.now c.args.core.now.state c.deref_mut.result.now
    c.requires.opening
    (c.deref_mut.ensures.value ∙ c.in_ok-hands.ensures ∙ ap (λ (list : List Tx). all_starting list n) c.requires.own))
    c.run.ensures
