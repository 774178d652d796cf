-- How many turns an actor needs at most, if it alone takes turns: each turn makes them fewer.
use Rattle.std.proofs.Common.{◌≡◌, ℕ, suc, ◌+◌, ◌-◌, ◌*◌, ◌≤◌, Bool, true, false, List, [], ◌∷◌, ◌++◌, length}
use Rattle.std.proofs.Common.{Some, Result, Ok, Err, refl, ap, ◌∙◌, arith}
use Rattle.std.specs.Prelude.{nat_lt, slice_index, if◌then◌else◌}
use Rattle.std.proofs.lemmas.Bool.{eq-eqb}
use Rattle.sx_event.specs.declared.event.Event.TheVariants as event
use Rattle.sx_event.specs.declared.event.Step.TheVariants as step
use Rattle.sx_event.specs.declared.marks.Note.{Note}
use Rattle.sx_event.specs.declared.marks.Note.TheVariants.{Low}
use Rattle.sx_event.specs.State.{State, view_of, purse_of}
use Rattle.sx_event.specs.Step.{answer, stepped, wins}
use Rattle.sx_event.specs.View.{View, last_low}
use Rattle.sx_event.proofs.Agreeing.{last_low-append}
use Rattle.sx_event.proofs.Words.{found_stays}
use Rattle.sx_outcome.specs.declared.outcome.Outcome.{Outcome}
use Rattle.sx_outcome.specs.declared.outcome.Outcome.TheVariants as outcome
use Rattle.sx_layout.specs.declared.stage.Next.{Next}
use Rattle.sx_layout.specs.declared.stage.Next.TheVariants.{On, Decided}
use Rattle.sx_layout.specs.declared.stage.Stage.{Stage}
use Rattle.sx_layout.specs.declared.stage.Stage.TheVariants as stage
use Rattle.sx_script.specs.Actors.{Actor}
use Rattle.sx_layout.specs.Asked.{wanted_by}
use Rattle.sx_layout.specs.Deciding.{after_claim, after_purse, next_event, second, stage_of, too_late, what_follows}
use Rattle.sx_layout.specs.Plan.{Plan}
use Rattle.sx_script.specs.Running.{acted, acted_at, moved, passed, ready, ready_at}
use Rattle.sx_script.proofs.PassingOver.{by_test}
use Rattle.sx_script.proofs.StepFits.{lost_notes, own_after}
use Rattle.sx_ledger.specs.declared.parts.Parts.{Parts}
use Rattle.sx_ledger.specs.declared.statics.Static.{Static}
use Rattle.sx_ledger.specs.Static.{static_of}
use Rattle.sx_tx.specs.declared.kind.Kind.{Kind}
use Rattle.sx_tx.specs.declared.kind.Kind.TheVariants as kind
use Rattle.sx_tx.specs.declared.tx.Tx.{Tx}

-- a Take is won at once if the purse is as it was seen last, and else at the second try
abbrev pub stage_turns : State → ℕ → Stage → ℕ
stage_turns state name stage.Number = 3
stage_turns state name (stage.Name word bit) = 1
stage_turns state name (stage.Look purse need) = 2
stage_turns state name (stage.Take purse need) =
    if wins (view_of state name) purse (purse_of state purse) then 1 else 2

abbrev pub turns_left : State → ℕ → Stage → List Tx → ℕ
turns_left state name at [] = 0
turns_left state name at (tx ∷ txs) = 3 * length txs + stage_turns state name at

-- ---- bounds

take_turns : (won : Bool) → (1 ≤ (if won then 1 else 2)) × ((if won then 1 else 2) ≤ 3)
take_turns true = (omega arith, omega arith)
take_turns false = (omega arith, omega arith)

some_turns : (state : State) (name : ℕ) (at : Stage) → (1 ≤ stage_turns state name at) × (stage_turns state name at ≤ 3)
some_turns state name stage.Number = (omega arith, omega arith)
some_turns state name (stage.Name word bit) = (omega arith, omega arith)
some_turns state name (stage.Look purse need) = (omega arith, omega arith)
some_turns state name (stage.Take purse need) = take_turns (wins (view_of state name) purse (purse_of state purse))

pub three_each : (state : State) (name : ℕ) (at : Stage) (left : List Tx) →
    turns_left state name at left ≤ 3 * length left
three_each state name at [] = omega arith
three_each state name at (tx ∷ txs) = let few = (some_turns state name at).1 in omega (arith, few)

pub none_left : (state : State) (name : ℕ) (at : Stage) (left : List Tx) → turns_left state name at left ≤ 0 → left ≡ []
none_left state name at [] none = refl
none_left state name at (tx ∷ txs) none = let some = (some_turns state name at).0 in absurd (omega (arith, some, none))

-- ---- a ready actor

passed_less : (state : State) (name : ℕ) (parts : Parts) (txs : List Tx) (done : List Outcome) →
    turns_left state name (passed parts txs done).stage (passed parts txs done).left ≤ 3 * length txs
passed_less state name parts [] done = omega arith
passed_less state name parts (tx ∷ txs) done =
    elim (static_of parts tx) as (λ (r : Result (Unit {0}) Static).
    turns_left state name (by_test parts (tx ∷ txs) tx txs done r).stage
    (by_test parts (tx ∷ txs) tx txs done r).left ≤ 3 * length (tx ∷ txs)) [
      | Ok passes ↦ omega arith
      | Err why ↦
          let rest = passed_less state name parts txs (done ++ outcome.Static why ∷ []) in omega (arith, rest)
    ]

number_turns : (state : State) (name : ℕ) (left : List Tx) → turns_left state name stage.Number left ≡ 3 * length left
number_turns state name [] = refl
number_turns state name (tx ∷ txs) = omega arith

ready_less : (state : State) (name : ℕ) (parts : Parts) (left : List Tx) (at : Stage) (done : List Outcome) →
    turns_left state name (ready_at parts (record { left = left; stage = at; done = done }) at).stage
    (ready_at parts (record { left = left; stage = at; done = done }) at).left
    ≤ turns_left state name at left
ready_less state name parts left stage.Number done =
    let few = passed_less state name parts left done in
    let all = number_turns state name left in
    omega (arith, few, all)
ready_less state name parts left (stage.Name word bit) done = omega arith
ready_less state name parts left (stage.Look purse need) done = omega arith
ready_less state name parts left (stage.Take purse need) done = omega arith

-- ---- what follows

abbrev NextLess : State → ℕ → ℕ → Next → Type 0
NextLess new name most (On at) = suc (stage_turns new name at) ≤ most
NextLess new name most (Decided said) = Unit {0}

wins_noted : (view : View) (purse value : ℕ) (notes : List Note) → view.notes ≡ notes ++ Low purse value ∷ [] →
    wins view purse value ≡ true
wins_noted view purse value notes same =
    let low : last_low purse view.notes ≡ Some value =
    ap (last_low purse) same ∙ last_low-append purse notes (Low purse value ∷ []) ∙ rw (eq-eqb purse purse refl) refl in
    rw low (eq-eqb value value refl)

value_less : (new : State) (name purse need value : ℕ) (less : Bool) →
    wins (view_of new name) purse (purse_of new purse) ≡ true →
    NextLess new name 2 (if less then Decided (outcome.Overdraft value need) else On (stage.Take purse need))
value_less new name purse need value true won = tt
value_less new name purse need value false won = rw won (omega arith)

claim_less : (new : State) (name most : ℕ) (clear taken : Next) (was : Bool) → NextLess new name most clear →
    NextLess new name most taken →
    NextLess new name most (after_claim clear taken (if was then step.Taken else step.Clear))
claim_less new name most clear taken true first second = second
claim_less new name most clear taken false first second = first

module _ (parts : Parts) (plan : Plan) (state : State) (name : ℕ) (live : (view_of state name).live ≡ true) where
  second_less : (new : State) (account : ℕ) (of : Kind) →
      suc (stage_turns new name (stage_of (wanted_by parts plan account of))) ≤ 3
  second_less new account (kind.Pay asset to amount) = omega arith
  second_less new account (kind.Create id) = omega arith
  second_less new account (kind.Offer sell buy limit amount) = omega arith
  second_less new account (kind.Cancel sell buy limit seq) = omega arith

  take_less : (purse need : ℕ) (won : Bool) → wins (view_of state name) purse (purse_of state purse) ≡ won
      → NextLess (stepped state name (event.Take purse need)) name (if won then 1 else 2)
      (after_purse purse need (if won then step.Won else step.Lost (purse_of state purse)))
  take_less purse need true e = tt
  take_less purse need false e =
      let found = purse_of state purse in
      let new = stepped state name (event.Take purse need) in
      let purses : new.purses ≡ state.purses = rw e (found_stays state.purses purse) in
      let same : purse_of new purse ≡ found = ap (λ (words : List ℕ). slice_index words purse) purses in
      let notes : (view_of new name).notes ≡ (view_of state name).notes ++ Low purse found ∷ [] =
      ap (λ (view : View). view.notes) (own_after state name (event.Take purse need) tt live)
      ∙ lost_notes (view_of state name) purse need found e in
      value_less new name purse need found (nat_lt found need)
      (ap (wins (view_of new name) purse) same
      ∙ wins_noted (view_of new name) purse found (view_of state name).notes notes)

  follow_less : (tx : Tx) (at : Stage) → NextLess (stepped state name (next_event parts plan tx at)) name
      (stage_turns state name at)
      (what_follows parts plan tx at (answer state name (next_event parts plan tx at)))
  follow_less tx stage.Number =
      let new = stepped state name (next_event parts plan tx stage.Number) in
      claim_less new name 3 (On (second parts plan tx)) (Decided outcome.SeqTaken) _
      (second_less new tx.account.0 tx.kind) tt
  follow_less tx (stage.Name word bit) =
      let new = stepped state name (event.Claim word bit) in
      claim_less new name 1 (Decided outcome.Accepted) (Decided (too_late tx.kind)) _ tt tt
  follow_less tx (stage.Look purse need) =
      let value = purse_of state purse in
      let new = stepped state name (event.Look purse) in
      value_less new name purse need value (nat_lt value need)
      (wins_noted (view_of new name) purse value (view_of state name).notes
      (ap (λ (view : View). view.notes) (own_after state name (event.Look purse) tt live)))
  follow_less tx (stage.Take purse need) =
      take_less purse need (wins (view_of state name) purse (purse_of state purse)) refl

  -- ---- a turn

  moved_less : (new : State) (tx : Tx) (txs : List Tx) (at : Stage) (done : List Outcome) (next : Next)
      → NextLess new name (stage_turns state name at) next
      → turns_left new name (moved (record { left = tx ∷ txs; stage = at; done = done }) next).stage
      (moved (record { left = tx ∷ txs; stage = at; done = done }) next).left
      ≤ turns_left state name at (tx ∷ txs) - 1
  moved_less new tx txs at done (On next) less = omega (arith, less)
  moved_less new tx txs at done (Decided said) less =
      let some = (some_turns state name at).0 in
      let all = number_turns new name txs in
      omega (arith, some, all)

  acts_less : (left : List Tx) (at : Stage) (done : List Outcome)
      → turns_left (acted_at parts plan state name (record { left = left; stage = at; done = done }) left).0 name
      (acted_at parts plan state name (record { left = left; stage = at; done = done }) left).1.stage
      (acted_at parts plan state name (record { left = left; stage = at; done = done }) left).1.left
      ≤ turns_left state name at left - 1
  acts_less [] at done = omega arith
  acts_less (tx ∷ txs) at done =
      moved_less (stepped state name (next_event parts plan tx at)) tx txs at done _ (follow_less tx at)

  pub acted_less : (actor : Actor)
      → turns_left (acted parts plan state name actor).0 name (acted parts plan state name actor).1.stage
      (acted parts plan state name actor).1.left
      ≤ turns_left state name actor.stage actor.left - 1
  acted_less actor =
      let now = ready parts actor in
      let after = acts_less now.left now.stage now.done in
      let before = ready_less state name parts actor.left actor.stage actor.done in
      omega (arith, after, before)
