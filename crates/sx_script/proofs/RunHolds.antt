-- What all turns of a script keep: the rule of the words and views, and what each actor's view has.
use Rattle.std.proofs.Common.{◌≡◌, ℕ, zero, suc, ◌<◌, true, false, cond, ltb, List, [], ◌∷◌, length, refl}
use Rattle.std.proofs.Common.{sym}
use Rattle.std.proofs.Common.{subst, ◌∙◌, inl, inr, arith, get_or-set_same, get_or-set_other, length-set}
use Rattle.std.specs.Prelude.{slice_set}
use Rattle.std.specs.List.{All}
use Rattle.std.proofs.lemmas.Bool.{cases_eq, ltb-true}
use Rattle.sx_event.specs.Rule.{Rule}
use Rattle.sx_event.specs.State.{view_of}
use Rattle.sx_event.specs.View.{View}
use Rattle.sx_script.specs.Actors.{Actor, actor_of, beginning}
use Rattle.sx_script.specs.Running.{Run, acted, after_own, after_turns, all_to_end, own_turn, turn}
use Rattle.sx_script.specs.RunKeeps.{IsOneShard, RunFits}
use Rattle.sx_layout.specs.Setting.{Setting}
use Rattle.sx_script.proofs.ActorMarks.{ActorKeeps}
use Rattle.sx_script.proofs.ActorTurn.{turned}
use Rattle.sx_script.proofs.LaterWords.{keeps_later}
use Rattle.sx_script.proofs.Openings.{turn_fits}
use Rattle.sx_script.proofs.OwnStep.{OpensAs}
use Rattle.sx_tx.specs.declared.tx.Tx.{Tx}
use Rattle.sx_tx.specs.Transactions.{IsTx}

-- view k is that of actor k, which began with these candidates
pub record RunHolds (s : Setting) (part : ℕ → List Tx) (run : Run) : Type 0 where
  pub rule : Rule run.state
  pub opens : OpensAs s.plan run.state
  pub many : length run.state.views ≡ length run.actors
  pub fits : RunFits s.candidates s.plan run
  pub keeps : (k : ℕ) → k < length run.actors
      → ActorKeeps s.parts s.plan run.state.purses run.state.bits (view_of run.state k).claims (part k)
      (actor_of run.actors k)

module _ (s : Setting) (is : IsOneShard s) (form : All IsTx s.candidates) (part : ℕ → List Tx) where
  own_holds : (name : ℕ) (run : Run) → name < length run.actors → RunHolds s part run
      → RunHolds s part (own_turn s.parts s.plan name run)
  own_holds name run within holds =
      let state = run.state in
      let actor = actor_of run.actors name in
      let after = acted s.parts s.plan state name actor in
      let new = after.0 in
      let made = after.1 in
      let done = turned s is form (part name) state name holds.rule holds.opens holds.fits.words actor
      (holds.fits.actors name within) (holds.keeps name within) in
      let long = length-set run.actors name made in
      record {
        rule = done.rule;
        opens = done.opens;
        many = done.many ∙ holds.many ∙ sym long;
        fits = turn_fits s.candidates s.plan state new run.actors name made within done.words done.fits done.others
            holds.fits.actors;
        keeps = λ k lt.
            let Keeps : View → ℕ → Actor → Type 0 =
            λ view j one. ActorKeeps s.parts s.plan new.purses new.bits view.claims (part j) one in
            elim (cases_eq k name) [
              | inl e ↦
                  subst (λ (j : ℕ). Keeps (view_of new j) j (actor_of (slice_set run.actors name made) j)) (sym e)
                  (subst (Keeps (view_of new name) name)
                  (sym (get_or-set_same run.actors name made (beginning [] []) within)) done.keeps)
              | inr ne ↦
                  subst (Keeps (view_of new k) k)
                  (sym (get_or-set_other run.actors name k made (beginning [] []) ne))
                  (subst (λ (view : View). Keeps view k (actor_of run.actors k)) (sym (done.views k ne))
                  (keeps_later s.parts s.plan state.purses state.bits new.purses new.bits done.later
                  (view_of state k).claims (part k) (actor_of run.actors k)
                  (holds.keeps k (omega (arith, lt, long)))))
            ];
      }

  pub turn_holds : (name : ℕ) (run : Run) → RunHolds s part run → RunHolds s part (turn s.parts s.plan name run)
  turn_holds name run holds =
      elim (ltb name (length run.actors)) as (λ b. ltb name (length run.actors) ≡ b
      → RunHolds s part (cond b (own_turn s.parts s.plan name run) run)) [
        | true ↦ λ e. own_holds name run (ltb-true name (length run.actors) e) holds
        | false ↦ λ e. holds
      ] refl

  pub turns_hold : (names : List ℕ) (run : Run) → RunHolds s part run
      → RunHolds s part (after_turns s.parts s.plan names run)
  turns_hold [] run holds = holds
  turns_hold (name ∷ names) run holds =
      turns_hold names (turn s.parts s.plan name run) (turn_holds name run holds)

  pub own_turns_hold : (name n : ℕ) (run : Run) → RunHolds s part run
      → RunHolds s part (after_own s.parts s.plan name n run)
  own_turns_hold name zero run holds = holds
  own_turns_hold name (suc n) run holds =
      turn_holds name (after_own s.parts s.plan name n run) (own_turns_hold name n run holds)

  pub ends_hold : (n : ℕ) (run : Run) → RunHolds s part run → RunHolds s part (all_to_end s.parts s.plan n run)
  ends_hold zero run holds = holds
  ends_hold (suc n) run holds = own_turns_hold n _ (all_to_end s.parts s.plan n run) (ends_hold n run holds)
