-- What a look at a purse and a take from it make of an actor.
use Rattle.std.proofs.Common.{◌≡◌, ℕ, ◌<◌, ◌≤◌, Bool, true, false, List, [], ◌∷◌, ◌++◌}
use Rattle.std.proofs.Common.{refl, sym, ap, subst, ◌∙◌, arith, append-nil}
use Rattle.std.specs.Prelude.{slice_index, nat_lt, if◌then◌else◌}
use Rattle.std.proofs.lemmas.Bool.{ltb-true}
use Rattle.sx_event.specs.declared.event.Step.TheVariants as step
use Rattle.sx_event.specs.declared.marks.Claim.{Claim}
use Rattle.sx_event.specs.declared.marks.Claim.TheVariants.{Debit}
use Rattle.sx_event.specs.declared.marks.Note.TheVariants.{Low}
use Rattle.sx_event.specs.State.{State}
use Rattle.sx_event.specs.View.{View, with_claim, with_note}
use Rattle.sx_layout.specs.declared.asked.Wanted.{Wanted}
use Rattle.sx_layout.specs.declared.asked.Wanted.TheVariants as wanted
use Rattle.sx_outcome.specs.declared.outcome.Outcome.{Outcome}
use Rattle.sx_outcome.specs.declared.outcome.Outcome.TheVariants as outcome
use Rattle.sx_layout.specs.declared.stage.Next.TheVariants.{On, Decided}
use Rattle.sx_layout.specs.declared.stage.Stage.{Stage}
use Rattle.sx_layout.specs.declared.stage.Stage.TheVariants as stage
use Rattle.sx_script.specs.Actors.{Actor}
use Rattle.sx_layout.specs.Deciding.{after_purse}
use Rattle.sx_layout.specs.Asked.{wanted_of}
use Rattle.sx_layout.specs.Marks.{IsMissed, IsShort}
use Rattle.sx_layout.specs.Plan.{Plan, words_of}
use Rattle.sx_script.specs.Running.{moved}
use Rattle.sx_script.proofs.ActorMarks.{ActorKeeps, IsDebited, decide, go_on, number_mark, pending_of}
use Rattle.sx_script.proofs.StageMarks.{debited_marks, wanted_shard}
use Rattle.sx_ledger.specs.declared.parts.Parts.{Parts}
use Rattle.sx_tx.specs.declared.tx.Tx.{Tx}

module _ (parts : Parts) (plan : Plan) (one : plan.shards ≡ 1) (state : State) (part : List Tx) where
  abbrev Keeps : List Claim → Actor → Type 0
  Keeps claims actor = ActorKeeps parts plan state.purses state.bits claims part actor

  abbrev at_stage : Tx → List Tx → List Outcome → Stage → Actor
  at_stage tx txs done at = record { left = tx ∷ txs; stage = at; done = done }

  abbrev purses_now : ℕ → List ℕ
  purses_now shard = state.purses

  module _ (view : View) (tx : Tx) (txs : List Tx) (done : List Outcome) where
    missed : (purse need value : ℕ) → value < need → value ≡ slice_index state.purses purse
        → value ≤ slice_index (words_of plan.purses 0) purse → IsDebited parts plan tx purse need
        → IsMissed plan purses_now (wanted_of parts plan tx) value need
    missed purse need value less now opening is =
        let low : slice_index state.purses is.spot.word ≤ value =
        subst (λ (w : ℕ). slice_index state.purses w ≤ value) is.at (omega (arith, now)) in
        let first : value ≤ slice_index (words_of plan.purses 0) is.spot.word =
        subst (λ (w : ℕ). value ≤ slice_index (words_of plan.purses 0) w) is.at opening in
        let shard : is.spot.shard ≡ 0 = wanted_shard parts plan one tx (wanted.Units is.spot need) is.wants in
        let short : IsShort plan purses_now is.spot value need = record {
          short = less;
          low = low;
          opening = subst (λ (k : ℕ). value ≤ slice_index (words_of plan.purses k) is.spot.word) (sym shard) first;
        } in
        subst (λ (what : Wanted). IsMissed plan purses_now what value need) (sym is.wants) (refl, short)

    pub value_step : (purse need value : ℕ) (at : Stage) (less : Bool) → nat_lt value need ≡ less
        → value ≡ slice_index state.purses purse → value ≤ slice_index (words_of plan.purses 0) purse
        → IsDebited parts plan tx purse need → pending_of parts plan tx at ≡ number_mark parts plan tx
        → Keeps view.claims (at_stage tx txs done at)
        → Keeps view.claims (moved (at_stage tx txs done at)
        (if less then Decided (outcome.Overdraft value need) else On (stage.Take purse need)))
    value_step purse need value at true e now opening is has keeps =
        decide parts plan state.purses state.bits part view.claims view.claims [] tx txs at done
        (outcome.Overdraft value need) keeps
        (is.passes, missed purse need value (ltb-true value need e) now opening is) (sym (append-nil view.claims))
        (ap (λ (c : List Claim). c ++ []) has)
    value_step purse need value at false e now opening is has keeps =
        let mark = number_mark parts plan tx in
        go_on parts plan state.purses state.bits part view.claims view.claims [] tx txs at (stage.Take purse need) done
        keeps is (sym (append-nil view.claims))
        (ap (λ (c : List Claim). c ++ []) has ∙ append-nil mark)

    pub take_step : (purse need value : ℕ) (won : Bool) → value ≡ slice_index state.purses purse
        → value ≤ slice_index (words_of plan.purses 0) purse → IsDebited parts plan tx purse need
        → Keeps view.claims (at_stage tx txs done (stage.Take purse need))
        → Keeps (if won then with_claim view (Debit purse need) else with_note view (Low purse value)).claims
        (moved (at_stage tx txs done (stage.Take purse need))
        (after_purse purse need (if won then step.Won else step.Lost value)))
    take_step purse need value true now opening is keeps =
        decide parts plan state.purses state.bits part view.claims (view.claims ++ Debit purse need ∷ [])
        (Debit purse need ∷ []) tx txs (stage.Take purse need) done outcome.Accepted keeps is.passes refl
        (debited_marks parts plan one tx purse need is)
    take_step purse need value false now opening is keeps =
        value_step purse need value (stage.Take purse need) (nat_lt value need) refl now opening is refl keeps
