-- What a turn of an actor keeps: the rule of the words and views, and what its view has.
use Rattle.std.proofs.Common.{◌≡◌, ◌≢◌, ℕ, List, [], ◌∷◌, length, Ok, refl, ap, subst, ◌∙◌}
use Rattle.std.proofs.Common.{length-set}
use Rattle.std.specs.Prelude.{Contains}
use Rattle.std.specs.List.{All}
use Rattle.std.proofs.lemmas.List.Elements.{All-head}
use Rattle.sx_event.specs.declared.event.Event.{Event}
use Rattle.sx_event.specs.declared.event.Event.TheVariants as event
use Rattle.sx_event.specs.Rule.{Rule}
use Rattle.sx_event.specs.State.{State, view_of}
use Rattle.sx_event.specs.Step.{answer, stepped}
use Rattle.sx_event.specs.View.{View}
use Rattle.sx_event.proofs.Keeping.{step_keeps}
use Rattle.sx_outcome.specs.declared.outcome.Outcome.{Outcome}
use Rattle.sx_layout.specs.declared.stage.Ahead.{Ahead}
use Rattle.sx_layout.specs.declared.stage.Stage.{Stage}
use Rattle.sx_layout.specs.declared.stage.Stage.TheVariants as stage
use Rattle.sx_script.specs.Actors.{Actor}
use Rattle.sx_script.specs.Ahead.{IsNext, NumberFits}
use Rattle.sx_layout.specs.Deciding.{next_event, second, what_follows}
use Rattle.sx_layout.specs.Plan.{Plan}
use Rattle.sx_script.specs.Running.{acted, acted_at, moved, ready}
use Rattle.sx_script.specs.RunKeeps.{ActorFits, IsOneShard, WordsStay}
use Rattle.sx_layout.specs.Setting.{Setting}
use Rattle.sx_script.proofs.ActorMarks.{ActorKeeps}
use Rattle.sx_script.proofs.LaterWords.{Later, keeps_later, same_later, step_later}
use Rattle.sx_script.proofs.OwnStep.{OpensAs, own_step}
use Rattle.sx_script.proofs.PassingOver.{FirstPassesTest, ready_all, ready_first, ready_keeps}
use Rattle.sx_script.proofs.StageWords.{number_fits}
use Rattle.sx_script.proofs.StepFits.{IsOnWord, next_allowed, next_fits, next_on_word, other_after, others_fit}
use Rattle.sx_script.proofs.StepFits.{ready_fits}
use Rattle.sx_script.proofs.StepFits.{views_after, words_stay}
use Rattle.sx_ledger.specs.Static.{static_of}
use Rattle.sx_tx.specs.declared.tx.Tx.{Tx}
use Rattle.sx_tx.specs.Transactions.{IsTx}

-- ---- the opening words

opens_after : (plan : Plan) (state : State) (name : ℕ) (e : Event) → OpensAs plan state →
    OpensAs plan (stepped state name e)
opens_after plan state name (event.Look purse) opens = record { purses = opens.purses; bits = opens.bits }
opens_after plan state name (event.Take purse need) opens = record { purses = opens.purses; bits = opens.bits }
opens_after plan state name (event.Claim word bit) opens = record { purses = opens.purses; bits = opens.bits }
opens_after plan state name (event.Split at) opens = record { purses = opens.purses; bits = opens.bits }
opens_after plan state name (event.Join other) opens = record { purses = opens.purses; bits = opens.bits }

many_after : (state : State) (name : ℕ) (e : Event) → IsOnWord e →
    length (stepped state name e).views ≡ length state.views
many_after state name e on = ap (λ (views : List View). length views) (views_after state name e on)
    ∙ length-set state.views name _

-- ---- a turn

-- after a turn of the actor of this name, which began with these candidates
pub record IsTurned (s : Setting) (part : List Tx) (state : State) (name : ℕ) (new : State)
    (actor : Actor) : Type 0 where
  pub rule : Rule new
  pub opens : OpensAs s.plan new
  pub many : length new.views ≡ length state.views
  pub words : WordsStay s.plan new
  pub fits : ActorFits s.candidates new name actor
  pub others : (other : ℕ) (one : Actor) → other ≢ name → ActorFits s.candidates state other one
      → ActorFits s.candidates new other one
  pub views : (other : ℕ) → other ≢ name → view_of new other ≡ view_of state other
  pub later : Later state.purses state.bits new.purses new.bits
  pub keeps : ActorKeeps s.parts s.plan new.purses new.bits (view_of new name).claims part actor

module _ (s : Setting) (is : IsOneShard s) (form : All IsTx s.candidates) (part : List Tx) (state : State) (name : ℕ)
    (rule : Rule state) (opens : OpensAs s.plan state) (words : WordsStay s.plan state) where
  one_shard : s.plan.shards ≡ 1
  one_shard = ap (λ (plan : Plan). plan.shards) is.plan

  number_or_not : (at : Stage) (tx : Tx) → static_of s.parts tx ≡ Ok tt → Contains s.candidates tx
      → NumberFits s tx at (next_event s.parts s.plan tx at)
  number_or_not stage.Number tx passes own =
      number_fits s is tx passes own (subst IsTx own.2 (form own.0 tx own.1))
  number_or_not (stage.Name word bit) tx passes own = tt
  number_or_not (stage.Look purse need) tx passes own = tt
  number_or_not (stage.Take purse need) tx passes own = tt

  acts : (left : List Tx) (at : Stage) (done : List Outcome) → FirstPassesTest s.parts left
      → ActorFits s.candidates state name (record { left = left; stage = at; done = done })
      → ActorKeeps s.parts s.plan state.purses state.bits (view_of state name).claims part
      (record { left = left; stage = at; done = done })
      → IsTurned s part state name
      (acted_at s.parts s.plan state name (record { left = left; stage = at; done = done }) left).0
      (acted_at s.parts s.plan state name (record { left = left; stage = at; done = done }) left).1
  acts [] at done passes fits keeps = record {
    rule = rule;
    opens = opens;
    many = refl;
    words = words;
    fits = fits;
    others = λ other one apart before. before;
    views = λ other apart. refl;
    later = same_later state.purses state.bits;
    keeps = keeps;
  }
  acts (tx ∷ txs) at done passes fits keeps =
      let now : Actor = record { left = tx ∷ txs; stage = at; done = done } in
      let own = next_event s.parts s.plan tx at in
      let on = next_on_word s.parts s.plan tx at in
      let ahead : Ahead = record { of = tx.kind; event = own; second = second s.parts s.plan tx } in
      let within = All-head (Contains s.candidates) tx txs fits.own in
      let next : IsNext s at (tx ∷ txs) ahead =
      record { event = refl; follows = λ told. refl; fits = number_or_not at tx passes within } in
      let new = stepped state name own in
      let later = step_later state name own in
      let after = moved now (what_follows s.parts s.plan tx at (answer state name own)) in
      record {
        rule = step_keeps own state name rule (next_allowed s state name now (tx ∷ txs) ahead words fits next);
        opens = opens_after s.plan state name own opens;
        many = many_after state name own on;
        words = words_stay s.plan state name own words;
        fits = next_fits s state name now (tx ∷ txs) ahead words fits next;
        others = λ other one apart before. others_fit s.candidates state name other own one on apart before;
        views = λ other apart. other_after state name other own on apart;
        later = later;
        keeps =
            keeps_later s.parts s.plan state.purses state.bits new.purses new.bits later (view_of new name).claims part
            after
            (own_step s.parts s.plan one_shard state part name tx txs at done rule opens fits.live passes keeps);
      }

  pub turned : (actor : Actor) → ActorFits s.candidates state name actor
      → ActorKeeps s.parts s.plan state.purses state.bits (view_of state name).claims part actor
      → IsTurned s part state name (acted s.parts s.plan state name actor).0 (acted s.parts s.plan state name actor).1
  turned actor fits keeps =
      let now = ready s.parts actor in
      let claims = (view_of state name).claims in
      let all = ready_all (Contains s.candidates) s.parts actor actor.stage fits.own in
      acts now.left now.stage now.done
      (ready_first s.parts s.plan state.purses state.bits claims part actor.left actor.stage actor.done keeps)
      (ready_fits s.parts s.candidates state name actor fits all)
      (ready_keeps s.parts s.plan state.purses state.bits claims part actor.left actor.stage actor.done keeps)
