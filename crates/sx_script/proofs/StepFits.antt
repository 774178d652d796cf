-- The next event of an actor is allowed, and after it that of each actor is again.
use Rattle.std.proofs.Common.{◌≡◌, ◌≢◌, ℕ, ◌<◌, Bool, true, false, List, [], ◌∷◌}
use Rattle.std.proofs.Common.{◌++◌, length}
use Rattle.std.proofs.Common.{get_or, drop, Some, Ok, Err, refl, sym, ap, subst, ◌∙◌, inl, inr, arith}
use Rattle.std.proofs.Common.{get_or-set_same, get_or-set_other, length-set}
use Rattle.std.specs.Prelude.{slice_get, slice_set, Contains, OnOk, Result, if◌then◌else◌}
use Rattle.std.specs.List.{All}
use Rattle.std.proofs.lemmas.Bool.{cases_Bool, cases_lt, eq-eqb, lt-ltb, le-ltb}
use Rattle.std.proofs.lemmas.List.Elements.{All-head, All-tail}
use Rattle.std.proofs.lemmas.Option.{same_Some}
use Rattle.sx_event.specs.declared.event.Event.{Event}
use Rattle.sx_event.specs.declared.event.Event.TheVariants as event
use Rattle.sx_event.specs.declared.event.Step.{Step}
use Rattle.sx_event.specs.declared.event.Step.TheVariants as step
use Rattle.sx_event.specs.declared.marks.Note.{Note}
use Rattle.sx_event.specs.declared.marks.Note.TheVariants.{Low}
use Rattle.sx_event.specs.State.{State, view_of, purse_of, word_of}
use Rattle.sx_event.specs.Step.{StepAllowed, answer, stepped, wins, has_bit, after_look, after_take}
use Rattle.sx_event.specs.Step.{after_claim as view_after_claim}
use Rattle.sx_event.specs.View.{View, last_low, spent}
use Rattle.sx_event.proofs.Agreeing.{last_low-append}
use Rattle.sx_event.proofs.Sums.{live_is_within}
use Rattle.sx_outcome.specs.declared.outcome.Outcome.{Outcome}
use Rattle.sx_outcome.specs.declared.outcome.Outcome.TheVariants as outcome
use Rattle.sx_layout.specs.declared.stage.Ahead.{Ahead}
use Rattle.sx_layout.specs.declared.stage.Next.{Next}
use Rattle.sx_layout.specs.declared.stage.Next.TheVariants.{On, Decided}
use Rattle.sx_layout.specs.declared.stage.Stage.{Stage}
use Rattle.sx_layout.specs.declared.stage.Stage.TheVariants as stage
use Rattle.sx_script.specs.Actors.{Actor, beginning}
use Rattle.sx_script.specs.Ahead.{FirstPasses, IsAhead, IsAheadBy, IsNext, NumberFits}
use Rattle.sx_layout.specs.Deciding.{after_claim, after_purse, after_value, follows, next_event, second, too_late}
use Rattle.sx_layout.specs.Deciding.{what_follows}
use Rattle.sx_layout.specs.Plan.{Plan, words_of}
use Rattle.sx_script.specs.Running.{acted_at, moved, passed, ready, ready_at}
use Rattle.sx_script.specs.RunKeeps.{ActorFits, IsClaim, IsNeed, IsSecond, StageFits, WordsStay}
use Rattle.sx_layout.specs.Setting.{Setting}
use Rattle.sx_ledger.specs.declared.parts.Parts.{Parts}
use Rattle.sx_ledger.specs.declared.places.Places.{Places}
use Rattle.sx_ledger.specs.declared.statics.Static.{Static}
use Rattle.sx_ledger.specs.Places.{ArePlaces}
use Rattle.sx_ledger.specs.Static.{static_of}
use Rattle.sx_tx.specs.declared.tx.Tx.{Tx}

-- ---- what an event changes

-- an event of this kind is on one word
abbrev pub IsOnWord : Event → Type 0
IsOnWord (event.Look purse) = Unit {0}
IsOnWord (event.Take purse need) = Unit {0}
IsOnWord (event.Claim word bit) = Unit {0}
IsOnWord (event.Split at) = ⊥
IsOnWord (event.Join other) = ⊥

pub next_on_word : (parts : Parts) (plan : Plan) (tx : Tx) (at : Stage) → IsOnWord (next_event parts plan tx at)
next_on_word parts plan tx stage.Number = tt
next_on_word parts plan tx (stage.Name word bit) = tt
next_on_word parts plan tx (stage.Look purse need) = tt
next_on_word parts plan tx (stage.Take purse need) = tt

-- the view of the actor after it
abbrev pub own_view : State → ℕ → Event → View
own_view state name (event.Look purse) = after_look (view_of state name) purse (purse_of state purse)
own_view state name (event.Take purse need) = after_take (view_of state name) purse need (purse_of state purse)
own_view state name (event.Claim word bit) = view_after_claim (view_of state name) word bit (word_of state word)
own_view state name (event.Split at) = spent
own_view state name (event.Join other) = spent

pub views_after : (state : State) (name : ℕ) (e : Event) → IsOnWord e
    → (stepped state name e).views ≡ slice_set state.views name (own_view state name e)
views_after state name (event.Look purse) on = refl
views_after state name (event.Take purse need) on = refl
views_after state name (event.Claim word bit) on = refl
views_after state name (event.Split at) on = absurd on
views_after state name (event.Join other) on = absurd on

still_live : (state : State) (name : ℕ) (e : Event) → IsOnWord e →
    (own_view state name e).live ≡ (view_of state name).live
still_live state name (event.Look purse) on = refl
still_live state name (event.Take purse need) on =
    elim (cases_Bool (wins (view_of state name) purse (purse_of state purse))) [
      | inl won ↦ rw won refl
      | inr lost ↦ rw lost refl
    ]
still_live state name (event.Claim word bit) on =
    elim (cases_Bool (has_bit (word_of state word) bit)) [
      | inl taken ↦ rw taken refl
      | inr clear ↦ rw clear refl
    ]
still_live state name (event.Split at) on = absurd on
still_live state name (event.Join other) on = absurd on

pub own_after : (state : State) (name : ℕ) (e : Event) → IsOnWord e → (view_of state name).live ≡ true
    → view_of (stepped state name e) name ≡ own_view state name e
own_after state name e on live =
    ap (λ (views : List View). get_or views name spent) (views_after state name e on)
    ∙ get_or-set_same state.views name (own_view state name e) spent (live_is_within state.views name live)

pub other_after : (state : State) (name other : ℕ) (e : Event) → IsOnWord e → other ≢ name
    → view_of (stepped state name e) other ≡ view_of state other
other_after state name other e on apart =
    ap (λ (views : List View). get_or views other spent) (views_after state name e on)
    ∙ get_or-set_other state.views name other (own_view state name e) spent apart

pub purses_after : (state : State) (name : ℕ) (e : Event) → length (stepped state name e).purses ≡ length state.purses
purses_after state name (event.Look purse) = refl
purses_after state name (event.Take purse need) = length-set state.purses purse _
purses_after state name (event.Claim word bit) = refl
purses_after state name (event.Split at) = refl
purses_after state name (event.Join other) = refl

pub bits_after : (state : State) (name : ℕ) (e : Event) → length (stepped state name e).bits ≡ length state.bits
bits_after state name (event.Look purse) = refl
bits_after state name (event.Take purse need) = refl
bits_after state name (event.Claim word bit) = length-set state.bits word _
bits_after state name (event.Split at) = refl
bits_after state name (event.Join other) = refl

pub words_stay : (plan : Plan) (state : State) (name : ℕ) (e : Event) → WordsStay plan state
    → WordsStay plan (stepped state name e)
words_stay plan state name e words = record {
  purses = purses_after state name e ∙ words.purses;
  bits = bits_after state name e ∙ words.bits;
}

-- ---- other actors

stage_kept : (state after : State) (name : ℕ) (at : Stage) → length after.purses ≡ length state.purses
    → length after.bits ≡ length state.bits → view_of after name ≡ view_of state name → StageFits state name at
    → StageFits after name at
stage_kept state after name stage.Number purses bits same fits = tt
stage_kept state after name (stage.Name word bit) purses bits same fits = rw bits fits
stage_kept state after name (stage.Look purse need) purses bits same fits = rw purses fits
stage_kept state after name (stage.Take purse need) purses bits same fits = rw (purses, same) fits

pub others_fit : (candidates : List Tx) (state : State) (name other : ℕ) (e : Event) (actor : Actor) → IsOnWord e
    → other ≢ name → ActorFits candidates state other actor
    → ActorFits candidates (stepped state name e) other actor
others_fit candidates state name other e actor on apart fits =
    let same = other_after state name other e on apart in
    record {
      live = ap (λ (view : View). view.live) same ∙ fits.live;
      stage =
          stage_kept state (stepped state name e) other actor.stage (purses_after state name e)
          (bits_after state name e) same fits.stage;
      own = fits.own;
    }

-- ---- the actor itself

claim_allowed : (state : State) (name words : ℕ) (e : Event) → length state.bits ≡ words
    → (view_of state name).live ≡ true → IsClaim words e → StepAllowed state name e
claim_allowed state name words (event.Claim word bit) same live is = (live, rw same is)
claim_allowed state name words (event.Look purse) same live is = absurd is
claim_allowed state name words (event.Take purse need) same live is = absurd is
claim_allowed state name words (event.Split at) same live is = absurd is
claim_allowed state name words (event.Join other) same live is = absurd is

allowed : (s : Setting) (state : State) (name : ℕ) (at : Stage) (tx : Tx) (ahead : Ahead)
    → WordsStay s.plan state → (view_of state name).live ≡ true → StageFits state name at → IsAhead s at tx ahead
    → StepAllowed state name ahead.event
allowed s state name stage.Number tx ahead words live fits is =
    claim_allowed state name (length (words_of s.plan.bits 0)) ahead.event words.bits live is.fits.0
allowed s state name (stage.Name word bit) tx ahead words live fits is = rw is.event (live, fits)
allowed s state name (stage.Look purse need) tx ahead words live fits is = rw is.event (live, fits.0)
allowed s state name (stage.Take purse need) tx ahead words live fits is =
    rw is.event (live, (fits.0.0, fits.0.1, fits.1))

second_fits : (state : State) (name purses bits : ℕ) (at : Stage) → length state.purses ≡ purses
    → length state.bits ≡ bits → IsSecond purses bits at → StageFits state name at
second_fits state name purses bits stage.Number same also is = absurd is
second_fits state name purses bits (stage.Name word bit) same also is = rw also is
second_fits state name purses bits (stage.Look purse need) same also is = rw same is
second_fits state name purses bits (stage.Take purse need) same also is = absurd is

-- the stage that follows, where one does
abbrev FollowFits : State → ℕ → Next → Type 0
FollowFits state name (On at) = StageFits state name at
FollowFits state name (Decided outcome) = Unit {0}

-- once a purse was noted at a value that is enough, it may be taken from
value_fits : (state : State) (name purse need value : ℕ) (notes : List Note) → IsNeed (length state.purses) purse need
    → (view_of state name).notes ≡ notes ++ Low purse value ∷ [] → FollowFits state name (after_value purse need value)
value_fits state name purse need value notes is same =
    elim (cases_lt value need) [
      | inl less ↦ rw (lt-ltb value need less) tt
      | inr enough ↦
          let low : last_low purse (view_of state name).notes ≡ Some value =
          ap (last_low purse) same ∙ last_low-append purse notes (Low purse value ∷ [])
          ∙ rw (eq-eqb purse purse refl) refl in
          rw (le-ltb value need enough) (is, rw low enough)
    ]

take_fits : (after : State) (name purse need found : ℕ) (notes : List Note) (won : Bool)
    → IsNeed (length after.purses) purse need
    → (won ≡ false → (view_of after name).notes ≡ notes ++ Low purse found ∷ [])
    → FollowFits after name (after_purse purse need (if won then step.Won else step.Lost found))
take_fits after name purse need found notes true is same = tt
take_fits after name purse need found notes false is same = value_fits after name purse need found notes is (same refl)

claim_fits : (after : State) (name : ℕ) (clear taken : Next) (was : Bool) → FollowFits after name clear
    → FollowFits after name taken
    → FollowFits after name (after_claim clear taken (if was then step.Taken else step.Clear))
claim_fits after name clear taken true first second = second
claim_fits after name clear taken false first second = first

pub lost_notes : (view : View) (purse need found : ℕ) → wins view purse found ≡ false
    → (after_take view purse need found).notes ≡ view.notes ++ Low purse found ∷ []
lost_notes view purse need found lost = rw lost refl

follow_fits : (s : Setting) (state : State) (name : ℕ) (at : Stage) (tx : Tx) (e : Event) → WordsStay s.plan state
    → (view_of state name).live ≡ true → StageFits state name at → NumberFits s tx at e
    → FollowFits (stepped state name (next_event s.parts s.plan tx at)) name
    (what_follows s.parts s.plan tx at (answer state name (next_event s.parts s.plan tx at)))
follow_fits s state name stage.Number tx e words live fits number =
    let own = next_event s.parts s.plan tx stage.Number in
    let after = stepped state name own in
    claim_fits after name (On (second s.parts s.plan tx)) (Decided outcome.SeqTaken) _
    (second_fits after name (length (words_of s.plan.purses 0)) (length (words_of s.plan.bits 0))
    (second s.parts s.plan tx) (purses_after state name own ∙ words.purses) (bits_after state name own ∙ words.bits)
    number.1)
    tt
follow_fits s state name (stage.Name word bit) tx e words live fits number =
    claim_fits (stepped state name (event.Claim word bit)) name (Decided outcome.Accepted)
    (Decided (too_late tx.kind)) _
    tt tt
follow_fits s state name (stage.Look purse need) tx e words live fits number =
    value_fits (stepped state name (event.Look purse)) name purse need (purse_of state purse) (view_of state name).notes
    fits (ap (λ (view : View). view.notes) (own_after state name (event.Look purse) tt live))
follow_fits s state name (stage.Take purse need) tx e words live fits number =
    let own = event.Take purse need in
    let after = stepped state name own in
    take_fits after name purse need (purse_of state purse) (view_of state name).notes
    (wins (view_of state name) purse (purse_of state purse))
    (subst (λ (n : ℕ). IsNeed n purse need) (sym (purses_after state name own)) fits.0)
    (λ lost. ap (λ (view : View). view.notes) (own_after state name own tt live)
    ∙ lost_notes (view_of state name) purse need (purse_of state purse) lost)

own_rest : (candidates left : List Tx) → All (Contains candidates) left → All (Contains candidates) (drop 1 left)
own_rest candidates [] all = all
own_rest candidates (tx ∷ txs) all = All-tail (Contains candidates) tx txs all

moved_fits : (candidates : List Tx) (after : State) (name : ℕ) (actor : Actor) (next : Next)
    → (view_of after name).live ≡ true → FollowFits after name next → All (Contains candidates) actor.left
    → ActorFits candidates after name (moved actor next)
moved_fits candidates after name actor (On at) live fits own = record { live = live; stage = fits; own = own }
moved_fits candidates after name actor (Decided outcome) live fits own =
    record { live = live; stage = tt; own = own_rest candidates actor.left own }

-- ---- a turn

module _ (s : Setting) (state : State) (name : ℕ) (now : Actor) where
  pub next_allowed : (left : List Tx) (ahead : Ahead) → WordsStay s.plan state → ActorFits s.candidates state name now
      → IsNext s now.stage left ahead → StepAllowed state name ahead.event
  next_allowed [] ahead words fits is = absurd is
  next_allowed (tx ∷ txs) ahead words fits is = allowed s state name now.stage tx ahead words fits.live fits.stage is

  pub next_on_words : (left : List Tx) (ahead : Ahead) → IsNext s now.stage left ahead → IsOnWord ahead.event
  next_on_words [] ahead is = absurd is
  next_on_words (tx ∷ txs) ahead is = subst IsOnWord (sym is.event) (next_on_word s.parts s.plan tx now.stage)

  pub acted_next : (left : List Tx) (ahead : Ahead) → IsNext s now.stage left ahead
      → acted_at s.parts s.plan state name now left
      ≡ (
        stepped state name ahead.event,
        moved now (follows ahead.of ahead.second now.stage (answer state name ahead.event)),
      )
  acted_next [] ahead is = absurd is
  acted_next (tx ∷ txs) ahead is =
      let own = next_event s.parts s.plan tx now.stage in
      let P : Event → State × Actor =
      λ e. (stepped state name e, moved now (follows ahead.of ahead.second now.stage (answer state name e))) in
      let Q : Next → State × Actor = λ next. (stepped state name own, moved now next) in
      sym (ap Q (is.follows (answer state name own))) ∙ sym (ap P is.event)

  pub next_fits : (left : List Tx) (ahead : Ahead) → WordsStay s.plan state → ActorFits s.candidates state name now
      → IsNext s now.stage left ahead
      → ActorFits s.candidates (stepped state name ahead.event) name
      (moved now (follows ahead.of ahead.second now.stage (answer state name ahead.event)))
  next_fits [] ahead words fits is = absurd is
  next_fits (tx ∷ txs) ahead words fits is =
      let own = next_event s.parts s.plan tx now.stage in
      let on = next_on_word s.parts s.plan tx now.stage in
      let P : Event → Type 0 = λ e. ActorFits s.candidates (stepped state name e) name
      (moved now (follows ahead.of ahead.second now.stage (answer state name e))) in
      let Q : Next → Type 0 = λ next. ActorFits s.candidates (stepped state name own) name (moved now next) in
      let live : (view_of (stepped state name own) name).live ≡ true =
      ap (λ (view : View). view.live) (own_after state name own on fits.live) ∙ still_live state name own on
      ∙ fits.live in
      let good = moved_fits s.candidates (stepped state name own) name now
      (what_follows s.parts s.plan tx now.stage (answer state name own)) live
      (follow_fits s state name now.stage tx ahead.event words fits.live fits.stage is.fits) fits.own in
      subst P (sym is.event) (subst Q (sym (is.follows (answer state name own))) good)

-- ---- a ready actor

pub passed_stage : (parts : Parts) (txs : List Tx) (done : List Outcome) → (passed parts txs done).stage ≡ stage.Number
passed_stage parts [] done = refl
passed_stage parts (tx ∷ txs) done =
    passes (static_of parts tx) (λ why. passed_stage parts txs (done ++ outcome.Static why ∷ []))
  where
    passes : (test : Result (Unit {0}) Static)
        → ((why : Static) → (passed parts txs (done ++ outcome.Static why ∷ [])).stage ≡ stage.Number)
        → (elim test as (λ t. Actor) [
          | Ok ok ↦ beginning (tx ∷ txs) done
          | Err why ↦ passed parts txs (done ++ outcome.Static why ∷ [])
        ]).stage ≡ stage.Number
    passes (Ok ok) rest = refl
    passes (Err why) rest = rest why

ready_fits_at : (parts : Parts) (candidates : List Tx) (state : State) (name : ℕ) (actor : Actor) (at : Stage)
    → (view_of state name).live ≡ true → StageFits state name actor.stage
    → All (Contains candidates) (ready_at parts actor at).left
    → ActorFits candidates state name (ready_at parts actor at)
ready_fits_at parts candidates state name actor stage.Number live fits own =
    record { live = live; stage = rw (passed_stage parts actor.left actor.done) tt; own = own }
ready_fits_at parts candidates state name actor (stage.Name word bit) live fits own =
    record { live = live; stage = fits; own = own }
ready_fits_at parts candidates state name actor (stage.Look purse need) live fits own =
    record { live = live; stage = fits; own = own }
ready_fits_at parts candidates state name actor (stage.Take purse need) live fits own =
    record { live = live; stage = fits; own = own }

pub ready_fits : (parts : Parts) (candidates : List Tx) (state : State) (name : ℕ) (actor : Actor)
    → ActorFits candidates state name actor → All (Contains candidates) (ready parts actor).left
    → ActorFits candidates state name (ready parts actor)
ready_fits parts candidates state name actor fits own =
    ready_fits_at parts candidates state name actor actor.stage fits.live fits.stage own

-- ---- the first of the candidates that are left

pub next_by_name : (s : Setting) (left : List Tx) (word bit : ℕ) (ahead : Ahead)
    → IsAheadBy (event.Claim word bit) left ahead → IsNext s (stage.Name word bit) left ahead
next_by_name s [] word bit ahead is = absurd is
next_by_name s (tx ∷ txs) word bit ahead is = record { event = is.1; follows = (λ told. rw is.0 refl); fits = tt }

pub next_by_look : (s : Setting) (left : List Tx) (purse need : ℕ) (ahead : Ahead)
    → IsAheadBy (event.Look purse) left ahead → IsNext s (stage.Look purse need) left ahead
next_by_look s [] purse need ahead is = absurd is
next_by_look s (tx ∷ txs) purse need ahead is = record { event = is.1; follows = (λ told. refl); fits = tt }

pub next_by_take : (s : Setting) (left : List Tx) (purse need : ℕ) (ahead : Ahead)
    → IsAheadBy (event.Take purse need) left ahead → IsNext s (stage.Take purse need) left ahead
next_by_take s [] purse need ahead is = absurd is
next_by_take s (tx ∷ txs) purse need ahead is = record { event = is.1; follows = (λ told. refl); fits = tt }

-- what holds of the first candidate
pub next_first : (s : Setting) (left : List Tx) (tx : Tx) (ahead : Ahead) → slice_get left 0 ≡ Some tx
    → IsAhead s stage.Number tx ahead → IsNext s stage.Number left ahead
next_first s [] tx ahead at is = absurd cc
next_first s (first ∷ txs) tx ahead at is =
    subst (λ (t : Tx). IsAhead s stage.Number t ahead) (sym (same_Some first tx at)) is

pub first_passes : (parts : Parts) (left : List Tx) (tx : Tx) (places : Places) → slice_get left 0 ≡ Some tx
    → FirstPasses parts left places → (static_of parts tx ≡ Ok tt) × ArePlaces parts tx places
first_passes parts [] tx places at is = absurd is
first_passes parts (first ∷ txs) tx places at is =
    subst (λ (t : Tx). (static_of parts t ≡ Ok tt) × ArePlaces parts t places) (same_Some first tx at) is

pub first_own : (candidates left : List Tx) (tx : Tx) → slice_get left 0 ≡ Some tx → All (Contains candidates) left
    → Contains candidates tx
first_own candidates [] tx at all = absurd cc
first_own candidates (first ∷ txs) tx at all =
    subst (Contains candidates) (same_Some first tx at) (All-head (Contains candidates) first txs all)

pub first_ahead_by : (left : List Tx) (tx : Tx) (e : Event) (ahead : Ahead) → slice_get left 0 ≡ Some tx
    → ahead.of ≡ tx.kind → ahead.event ≡ e → IsAheadBy e left ahead
first_ahead_by [] tx e ahead at of same = absurd cc
first_ahead_by (first ∷ txs) tx e ahead at of same =
    (of ∙ ap (λ (t : Tx). t.kind) (sym (same_Some first tx at)), same)

pub some_left : (s : Setting) (at : Stage) (left : List Tx) (ahead : Ahead) → IsNext s at left ahead → 0 < length left
some_left s at [] ahead is = absurd is
some_left s at (tx ∷ txs) ahead is = omega arith

-- ---- as the code goes

pub on_ok : {T E : Type 0} (r : Result T E) (P Q : Type 0) → (P → Q) → OnOk r P → OnOk r Q
on_ok (Ok x) P Q f holds = f holds
on_ok (Err e) P Q f holds = tt

pub ready_now : (s : Setting) (state : State) (name : ℕ) (actor now : Actor) → now ≡ ready s.parts actor
    → ActorFits s.candidates state name actor → All (Contains s.candidates) now.left
    → ActorFits s.candidates state name now
ready_now s state name actor now same fits own =
    subst (λ (a : Actor). ActorFits s.candidates state name a) (sym same)
    (ready_fits s.parts s.candidates state name actor fits
    (subst (λ (a : Actor). All (Contains s.candidates) a.left) same own))

pub act_fits : (s : Setting) (state after : State) (name : ℕ) (now hand : Actor) (ahead : Ahead) (at : Stage)
    (told : Step) (next : Next) → WordsStay s.plan state → ActorFits s.candidates state name now
    → IsNext s now.stage now.left ahead → after ≡ stepped state name ahead.event → at ≡ now.stage
    → told ≡ answer state name ahead.event → next ≡ follows ahead.of ahead.second at told → hand ≡ moved now next
    → ActorFits s.candidates after name hand
act_fits s state after name now hand ahead at told next words fits is after_is at_is told_is next_is hand_is =
    let good = next_fits s state name now now.left ahead words fits is in
    let same : hand ≡ moved now (follows ahead.of ahead.second now.stage (answer state name ahead.event)) =
    hand_is ∙ ap (moved now) (next_is ∙ (λ i. follows ahead.of ahead.second (at_is i) (told_is i))) in
    subst (λ (x : State). ActorFits s.candidates x name hand) (sym after_is)
    (subst (λ (a : Actor). ActorFits s.candidates (stepped state name ahead.event) name a) (sym same) good)

pub act_others : (s : Setting) (state after : State) (name other : ℕ) (now actor : Actor) (ahead : Ahead)
    → IsNext s now.stage now.left ahead → after ≡ stepped state name ahead.event → other ≢ name
    → ActorFits s.candidates state other actor → ActorFits s.candidates after other actor
act_others s state after name other now actor ahead is after_is apart fits =
    subst (λ (x : State). ActorFits s.candidates x other actor) (sym after_is)
    (others_fit s.candidates state name other ahead.event actor (next_on_words s state name now now.left ahead is)
    apart fits)
