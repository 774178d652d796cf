-- What a claim of a bit makes of an actor: of its candidate's number, or of what the candidate names.
use Rattle.std.proofs.Common.{◌≡◌, ℕ, Bool, true, false, List, [], ◌∷◌, ◌++◌, Ok}
use Rattle.std.proofs.Common.{refl, sym, ap, subst, ◌∙◌, append-nil}
use Rattle.std.specs.Prelude.{if◌then◌else◌}
use Rattle.sx_event.specs.declared.event.Step.TheVariants as step
use Rattle.sx_event.specs.declared.marks.Claim.{Claim}
use Rattle.sx_event.specs.declared.marks.Claim.TheVariants.{Bit}
use Rattle.sx_event.specs.declared.marks.Note.TheVariants.{Set}
use Rattle.sx_event.specs.State.{State}
use Rattle.sx_event.specs.View.{View, with_claim, with_note}
use Rattle.sx_outcome.specs.declared.outcome.Outcome.{Outcome}
use Rattle.sx_outcome.specs.declared.outcome.Outcome.TheVariants as outcome
use Rattle.sx_layout.specs.declared.stage.Next.TheVariants.{On, Decided}
use Rattle.sx_layout.specs.declared.stage.Stage.{Stage}
use Rattle.sx_layout.specs.declared.stage.Stage.TheVariants as stage
use Rattle.sx_script.specs.Actors.{Actor}
use Rattle.sx_layout.specs.Asked.{number_spot, wanted_of}
use Rattle.sx_layout.specs.Deciding.{after_claim, second, too_late}
use Rattle.sx_layout.specs.Marks.{Closes, IsGone, IsSet, marks_of}
use Rattle.sx_layout.specs.Plan.{Plan}
use Rattle.sx_script.specs.Running.{moved}
use Rattle.sx_script.proofs.ActorMarks.{ActorKeeps, IsNamed, decide, go_on, number_mark}
use Rattle.sx_script.proofs.StageMarks.{named_marks, number_mark_is, second_is, second_pending}
use Rattle.sx_ledger.specs.declared.parts.Parts.{Parts}
use Rattle.sx_ledger.specs.Static.{static_of}
use Rattle.sx_tx.specs.declared.kind.Kind.{Kind}
use Rattle.sx_tx.specs.declared.kind.Kind.TheVariants as kind
use Rattle.sx_tx.specs.declared.tx.Tx.{Tx}

module _ (parts : Parts) (plan : Plan) (one : plan.shards ≡ 1) (state : State) (part : List Tx) where
  abbrev Keeps : List Claim → Actor → Type 0
  Keeps claims actor = ActorKeeps parts plan state.purses state.bits claims part actor

  abbrev at_stage : Tx → List Tx → List Outcome → Stage → Actor
  at_stage tx txs done at = record { left = tx ∷ txs; stage = at; done = done }

  abbrev bits_now : ℕ → List ℕ
  bits_now shard = state.bits

  abbrev purses_now : ℕ → List ℕ
  purses_now shard = state.purses

  module _ (view : View) (tx : Tx) (txs : List Tx) (done : List Outcome) where
    -- ---- the number

    pub number_step : (was : Bool) → static_of parts tx ≡ Ok tt
        → (was ≡ true → IsSet bits_now (number_spot parts plan tx).0 (number_spot parts plan tx).1)
        → Keeps view.claims (at_stage tx txs done stage.Number)
        → Keeps (if was
        then with_note view (Set (number_spot parts plan tx).0.word (number_spot parts plan tx).1)
        else with_claim view (Bit (number_spot parts plan tx).0.word (number_spot parts plan tx).1)).claims
        (moved (at_stage tx txs done stage.Number)
        (after_claim (On (second parts plan tx)) (Decided outcome.SeqTaken) (if was then step.Taken else step.Clear)))
    number_step true passes set keeps =
        decide parts plan state.purses state.bits part view.claims view.claims [] tx txs stage.Number done
        outcome.SeqTaken keeps (passes, set refl) (sym (append-nil view.claims)) refl
    number_step false passes set keeps =
        let at = number_spot parts plan tx in
        let own : List Claim = Bit at.0.word at.1 ∷ [] in
        go_on parts plan state.purses state.bits part view.claims (view.claims ++ own) own tx txs stage.Number
        (second parts plan tx) done keeps (second_is parts plan tx passes) refl
        (sym (number_mark_is parts plan one tx) ∙ sym (second_pending parts plan tx))

    -- ---- what is named

    record IsLate (of : Outcome) : Type 0 where
      closes : Closes parts plan purses_now bits_now tx of
      marks : number_mark parts plan tx ++ [] ≡ marks_of parts plan 0 (record { tx = tx; outcome = of })

    late : (of : Kind) → tx.kind ≡ of → static_of parts tx ≡ Ok tt → IsGone bits_now (wanted_of parts plan tx)
        → IsLate (too_late of)
    late (kind.Pay asset to amount) e passes gone = record { closes = (passes, ap too_late e, gone); marks = refl }
    late (kind.Create id) e passes gone = record { closes = (passes, ap too_late e, gone); marks = refl }
    late (kind.Offer sell buy limit amount) e passes gone =
        record { closes = (passes, ap too_late e, gone); marks = refl }
    late (kind.Cancel sell buy limit seq) e passes gone =
        record { closes = (passes, ap too_late e, gone); marks = refl }

    pub name_step : (word bit : ℕ) (was : Bool) → (named : IsNamed parts plan tx word bit)
        → (was ≡ true → IsSet bits_now named.spot bit)
        → Keeps view.claims (at_stage tx txs done (stage.Name word bit))
        → Keeps (if was then with_note view (Set word bit) else with_claim view (Bit word bit)).claims
        (moved (at_stage tx txs done (stage.Name word bit))
        (after_claim (Decided outcome.Accepted) (Decided (too_late tx.kind)) (if was then step.Taken else step.Clear)))
    name_step word bit true is set keeps =
        let told = late tx.kind refl is.passes (subst (IsGone bits_now) (sym is.wants) (set refl)) in
        decide parts plan state.purses state.bits part view.claims view.claims [] tx txs (stage.Name word bit) done
        (too_late tx.kind) keeps told.closes (sym (append-nil view.claims)) told.marks
    name_step word bit false is set keeps =
        decide parts plan state.purses state.bits part view.claims (view.claims ++ Bit word bit ∷ [])
        (Bit word bit ∷ []) tx txs (stage.Name word bit) done outcome.Accepted keeps is.passes refl
        (named_marks parts plan one tx word bit is)
