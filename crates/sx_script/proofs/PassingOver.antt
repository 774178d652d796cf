-- An actor that passes over candidates that the ledger refuses.
use Rattle.std.proofs.Common.{◌≡◌, ℕ, List, [], ◌∷◌, ◌++◌, ◌+◌, ◌-◌, ◌<◌, ◌≤◌, Result, Ok, Err, refl, sym, ap, subst}
use Rattle.std.proofs.Common.{◌∙◌, append-nil, arith, drop, get_or, length, take}
use Rattle.std.specs.List.{All}
use Rattle.std.proofs.lemmas.List.{drop_all, drop_more, length-drop, take_all}
use Rattle.std.proofs.lemmas.List.Elements.{All-drop, All-tail, All-take}
use Rattle.sx_event.specs.declared.marks.Claim.{Claim}
use Rattle.sx_outcome.specs.declared.outcome.Outcome.{Outcome}
use Rattle.sx_outcome.specs.declared.outcome.Outcome.TheVariants as outcome
use Rattle.sx_layout.specs.declared.stage.Stage.{Stage}
use Rattle.sx_layout.specs.declared.stage.Stage.TheVariants as stage
use Rattle.sx_script.specs.Actors.{Actor, beginning}
use Rattle.sx_script.specs.Ahead.{FirstPasses}
use Rattle.sx_layout.specs.Plan.{Plan}
use Rattle.sx_script.specs.Running.{passed, ready_at}
use Rattle.sx_script.proofs.ActorMarks.{ActorKeeps, decide}
use Rattle.sx_ledger.specs.declared.parts.Parts.{Parts}
use Rattle.sx_ledger.specs.declared.statics.Static.{Static}
use Rattle.sx_ledger.specs.declared.places.Places.{Places}
use Rattle.sx_ledger.specs.Places.{ArePlaces}
use Rattle.sx_ledger.specs.Static.{static_of}
use Rattle.sx_tx.specs.declared.tx.Tx.{Tx}

-- the first of these, if there is one, passes the static test
abbrev pub FirstPassesTest : Parts → List Tx → Type 0
FirstPassesTest parts [] = Unit {0}
FirstPassesTest parts (tx ∷ txs) = static_of parts tx ≡ Ok tt

abbrev pub by_test : Parts → List Tx → Tx → List Tx → List Outcome → Result (Unit {0}) Static → Actor
by_test parts left tx txs done test = elim test [
  | Ok passes ↦ beginning left done
  | Err why ↦ passed parts txs (done ++ outcome.Static why ∷ [])
]

-- ---- what a slice from a place on has

slice_from : (left : List Tx) (at : ℕ) → take (length left - at) (drop at left) ≡ drop at left
slice_from left at =
    let size = length-drop at left in
    take_all (length left - at) (drop at left) (omega (arith, size))

pub none_left : (left : List Tx) → take (length left - length left) (drop (length left) left) ≡ []
none_left left = slice_from left (length left) ∙ drop_all (length left) left (omega arith)

pub slice_all : (P : Tx → Type 0) (left : List Tx) (at : ℕ) → All P left →
    All P (take (length left - at) (drop at left))
slice_all P left at all = All-take P (length left - at) (drop at left) (All-drop P at left all)

-- ---- one by one

module _ (parts : Parts) (left : List Tx) (at : ℕ) (tx : Tx) (lt : at < length left) (is : tx ≡ get_or left at tx) where
  here : drop at left ≡ tx ∷ drop (at + 1) left
  here = drop_more left at tx lt ∙ ap (λ (t : Tx). t ∷ drop (at + 1) left) (sym is)

  pub passes_over : (why : Static) (done after : List Outcome) → static_of parts tx ≡ Err why
      → after ≡ done ++ outcome.Static why ∷ []
      → passed parts (drop at left) done ≡ passed parts (drop (at + 1) left) after
  passes_over why done after e grown =
      let rest = drop (at + 1) left in
      ap (λ (list : List Tx). passed parts list done) here
      ∙ ap (λ (r : Result (Unit {0}) Static). by_test parts (tx ∷ rest) tx rest done r) e
      ∙ ap (λ (d : List Outcome). passed parts rest d) (sym grown)

  pub stops_here : (done : List Outcome) → static_of parts tx ≡ Ok tt
      → passed parts (drop at left) done ≡ beginning (take (length left - at) (drop at left)) done
  stops_here done e =
      let rest = drop (at + 1) left in
      ap (λ (list : List Tx). passed parts list done) here
      ∙ ap (λ (r : Result (Unit {0}) Static). by_test parts (tx ∷ rest) tx rest done r) e
      ∙ ap (λ (list : List Tx). beginning list done) (sym (slice_from left at ∙ here))

  pub passes_first : (places : Places) → static_of parts tx ≡ Ok tt → ArePlaces parts tx places
      → FirstPasses parts (take (length left - at) (drop at left)) places
  passes_first places e are =
      subst (λ (list : List Tx). FirstPasses parts list places) (sym (slice_from left at ∙ here)) (e, are)

pub stops_at_end : (parts : Parts) (left : List Tx) (at : ℕ) (done : List Outcome) → length left ≤ at →
    passed parts (drop at left) done ≡ beginning (take (length left - length left) (drop (length left) left)) done
stops_at_end parts left at done over =
    ap (λ (list : List Tx). passed parts list done) (drop_all at left over)
    ∙ ap (λ (list : List Tx). beginning list done) (sym (none_left left))

-- ---- candidates of a kind

pub passed_all : (P : Tx → Type 0) (parts : Parts) (txs : List Tx) (done : List Outcome) → All P txs →
    All P (passed parts txs done).left
passed_all P parts [] done all = all
passed_all P parts (tx ∷ txs) done all =
    elim (static_of parts tx) as (λ (r : Result (Unit {0}) Static). All P (by_test parts (tx ∷ txs) tx txs done r).left) [
      | Ok passes ↦ all
      | Err why ↦ passed_all P parts txs (done ++ outcome.Static why ∷ []) (All-tail P tx txs all)
    ]

pub ready_all : (P : Tx → Type 0) (parts : Parts) (actor : Actor) (at : Stage) → All P actor.left →
    All P (ready_at parts actor at).left
ready_all P parts actor stage.Number all = passed_all P parts actor.left actor.done all
ready_all P parts actor (stage.Name word bit) all = all
ready_all P parts actor (stage.Look purse need) all = all
ready_all P parts actor (stage.Take purse need) all = all

-- ---- the first one passes

passed_first : (parts : Parts) (txs : List Tx) (done : List Outcome) →
    FirstPassesTest parts (passed parts txs done).left
passed_first parts [] done = tt
passed_first parts (tx ∷ txs) done =
    elim (static_of parts tx) as (λ (r : Result (Unit {0}) Static). static_of parts tx ≡ r →
    FirstPassesTest parts (by_test parts (tx ∷ txs) tx txs done r).left) [
      | Ok passes ↦ λ e. e
      | Err why ↦ λ e. passed_first parts txs (done ++ outcome.Static why ∷ [])
    ] refl

-- ---- what an actor keeps

module _ (parts : Parts) (plan : Plan) (purses bits : List ℕ) (claims : List Claim) (part : List Tx) where
  passed_keeps : (txs : List Tx) (done : List Outcome)
      → ActorKeeps parts plan purses bits claims part (beginning txs done)
      → ActorKeeps parts plan purses bits claims part (passed parts txs done)
  passed_keeps [] done keeps = keeps
  passed_keeps (tx ∷ txs) done keeps =
      elim (static_of parts tx) as (λ (r : Result (Unit {0}) Static). static_of parts tx ≡ r →
      ActorKeeps parts plan purses bits claims part (by_test parts (tx ∷ txs) tx txs done r)) [
        | Ok passes ↦ λ e. keeps
        | Err why ↦ λ e. passed_keeps txs (done ++ outcome.Static why ∷ [])
            (decide parts plan purses bits part claims claims [] tx txs stage.Number done (outcome.Static why) keeps e
            (sym (append-nil claims)) refl)
      ] refl

  pub ready_keeps : (left : List Tx) (at : Stage) (done : List Outcome)
      → ActorKeeps parts plan purses bits claims part (record { left = left; stage = at; done = done })
      → ActorKeeps parts plan purses bits claims part
      (ready_at parts (record { left = left; stage = at; done = done }) at)
  ready_keeps left stage.Number done keeps = passed_keeps left done keeps
  ready_keeps left (stage.Name word bit) done keeps = keeps
  ready_keeps left (stage.Look purse need) done keeps = keeps
  ready_keeps left (stage.Take purse need) done keeps = keeps

  pub ready_first : (left : List Tx) (at : Stage) (done : List Outcome)
      → ActorKeeps parts plan purses bits claims part (record { left = left; stage = at; done = done })
      → FirstPassesTest parts (ready_at parts (record { left = left; stage = at; done = done }) at).left
  ready_first left stage.Number done keeps = passed_first parts left done
  ready_first [] (stage.Name word bit) done keeps = tt
  ready_first (tx ∷ txs) (stage.Name word bit) done keeps = keeps.first.passes
  ready_first [] (stage.Look purse need) done keeps = tt
  ready_first (tx ∷ txs) (stage.Look purse need) done keeps = keeps.first.passes
  ready_first [] (stage.Take purse need) done keeps = tt
  ready_first (tx ∷ txs) (stage.Take purse need) done keeps = keeps.first.passes
