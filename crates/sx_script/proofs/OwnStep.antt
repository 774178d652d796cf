-- What an actor's next event makes of its claims and of its first candidate.
use Rattle.std.proofs.Common.{◌≡◌, ℕ, ◌≤◌, true, List, ◌∷◌, Ok}
use Rattle.std.proofs.Common.{refl, sym, ap, subst, arith}
use Rattle.std.specs.Int.{bit_at}
use Rattle.std.specs.Prelude.{slice_index, nat_lt}
use Rattle.std.proofs.lemmas.Bool.{eqb-true}
use Rattle.sx_event.specs.declared.marks.Claim.{Claim}
use Rattle.sx_event.specs.Rule.{Rule}
use Rattle.sx_event.specs.State.{State, view_of, purse_of, word_of}
use Rattle.sx_event.specs.Step.{answer, has_bit, stepped, wins}
use Rattle.sx_event.specs.View.{View}
use Rattle.sx_outcome.specs.declared.outcome.Outcome.{Outcome}
use Rattle.sx_layout.specs.declared.stage.Stage.{Stage}
use Rattle.sx_layout.specs.declared.stage.Stage.TheVariants as stage
use Rattle.sx_script.specs.Actors.{Actor}
use Rattle.sx_layout.specs.Deciding.{next_event, what_follows}
use Rattle.sx_layout.specs.Asked.{number_spot}
use Rattle.sx_layout.specs.Plan.{Plan, words_of}
use Rattle.sx_script.specs.Running.{moved}
use Rattle.sx_script.proofs.ActorMarks.{ActorKeeps}
use Rattle.sx_script.proofs.StepFits.{next_on_word, own_after, own_view}
use Rattle.sx_ledger.specs.declared.parts.Parts.{Parts}
use Rattle.sx_ledger.specs.Static.{static_of}
use Rattle.sx_tx.specs.declared.tx.Tx.{Tx}
use Rattle.sx_script.proofs.ClaimSteps.{name_step, number_step}
use Rattle.sx_script.proofs.PurseSteps.{take_step, value_step}

-- the opening words of the state are those of the plan
pub record OpensAs (plan : Plan) (state : State) : Type 0 where
  pub purses : state.opening_purses ≡ words_of plan.purses 0
  pub bits : state.opening_bits ≡ words_of plan.bits 0

module _ (parts : Parts) (plan : Plan) (one : plan.shards ≡ 1) (state : State) (part : List Tx) where
  abbrev Keeps : List Claim → Actor → Type 0
  Keeps claims actor = ActorKeeps parts plan state.purses state.bits claims part actor

  abbrev at_stage : Tx → List Tx → List Outcome → Stage → Actor
  at_stage tx txs done at = record { left = tx ∷ txs; stage = at; done = done }

  covered : (purse : ℕ) → Rule state → OpensAs plan state →
      purse_of state purse ≤ slice_index (words_of plan.purses 0) purse
  covered purse rule opens =
      let adds = rule.purses.adds_up purse in
      let same = ap (λ (words : List ℕ). slice_index words purse) opens.purses in
      omega (arith, adds, same)

  pub own_step : (name : ℕ) (tx : Tx) (txs : List Tx) (at : Stage) (done : List Outcome) → Rule state
      → OpensAs plan state → (view_of state name).live ≡ true → static_of parts tx ≡ Ok tt
      → ActorKeeps parts plan state.purses state.bits (view_of state name).claims part
      (record { left = tx ∷ txs; stage = at; done = done })
      → ActorKeeps parts plan state.purses state.bits
      (view_of (stepped state name (next_event parts plan tx at)) name).claims part
      (moved (record { left = tx ∷ txs; stage = at; done = done })
      (what_follows parts plan tx at (answer state name (next_event parts plan tx at))))
  own_step name tx txs at done rule opens live passes keeps =
      let own = next_event parts plan tx at in
      let after = moved (at_stage tx txs done at) (what_follows parts plan tx at (answer state name own)) in
      subst (λ (view : View). Keeps view.claims after) (sym (own_after state name own (next_on_word parts plan tx at)
      live)) (by_stage at keeps)
    where
      by_stage : (at : Stage) → Keeps (view_of state name).claims (at_stage tx txs done at)
          → Keeps (own_view state name (next_event parts plan tx at)).claims
          (moved (at_stage tx txs done at)
          (what_follows parts plan tx at (answer state name (next_event parts plan tx at))))
      by_stage stage.Number keeps =
          let spot = number_spot parts plan tx in
          number_step parts plan one state part (view_of state name) tx txs done
          (has_bit (word_of state spot.0.word) spot.1) passes (λ is. eqb-true _ 1 is) keeps
      by_stage (stage.Name word bit) keeps =
          let is = keeps.first in
          name_step parts plan one state part (view_of state name) tx txs done word bit
          (has_bit (word_of state word) bit) is
          (λ set. subst (λ (w : ℕ). bit_at (slice_index state.bits w) bit ≡ 1) is.at (eqb-true _ 1 set)) keeps
      by_stage (stage.Look purse need) keeps =
          value_step parts plan one state part (view_of state name) tx txs done purse need (purse_of state purse)
          (stage.Look purse need)
          (nat_lt (purse_of state purse) need) refl refl (covered purse rule opens) keeps.first refl keeps
      by_stage (stage.Take purse need) keeps =
          take_step parts plan one state part (view_of state name) tx txs done purse need (purse_of state purse)
          (wins (view_of state name) purse (purse_of state purse)) refl (covered purse rule opens) keeps.first keeps
