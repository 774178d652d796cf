-- A step of an actor keeps its form, and makes no more outcomes than it has candidates.
use Rattle.std.proofs.Common.{◌≡◌, ℕ, ◌+◌, ◌≤◌, true, false, cond, ltb, List, [], ◌∷◌, ◌++◌, length, drop, Result}
use Rattle.std.proofs.Common.{Ok, Err, refl, sym, ap, subst, arith}
use Rattle.std.specs.List.{All}
use Rattle.std.proofs.lemmas.Bool.{ltb-true}
use Rattle.std.proofs.lemmas.List.{length-append}
use Rattle.std.proofs.lemmas.List.Elements.{All-append, All-drop, All-from_recursion, recursion_from_All}
use Rattle.sx_base.specs.Ranges.{most_amount}
use Rattle.sx_event.specs.declared.event.Step.{Step}
use Rattle.sx_event.specs.declared.event.Step.TheVariants as step
use Rattle.sx_event.specs.State.{State}
use Rattle.sx_event.specs.Step.{answer}
use Rattle.sx_outcome.specs.declared.outcome.Outcome.{Outcome}
use Rattle.sx_outcome.specs.declared.outcome.Outcome.TheVariants as outcome
use Rattle.sx_layout.specs.declared.stage.Next.{Next}
use Rattle.sx_layout.specs.declared.stage.Next.TheVariants.{On, Decided}
use Rattle.sx_layout.specs.declared.stage.Stage.{Stage}
use Rattle.sx_layout.specs.declared.stage.Stage.TheVariants as stage
use Rattle.sx_script.specs.Actors.{Actor, beginning}
use Rattle.sx_layout.specs.Asked.{wanted_by}
use Rattle.sx_layout.specs.Deciding.{after_claim, after_purse, after_value, follows, next_event, second, stage_of}
use Rattle.sx_layout.specs.Deciding.{too_late, what_follows}
use Rattle.sx_outcome.specs.Outcomes.{IsOutcome}
use Rattle.sx_layout.specs.Plan.{Plan}
use Rattle.sx_script.specs.Running.{acted, acted_at, moved, passed, ready, ready_at}
use Rattle.sx_ledger.specs.declared.parts.Parts.{Parts}
use Rattle.sx_ledger.specs.declared.statics.Static.{Static}
use Rattle.sx_ledger.specs.Static.{static_of}
use Rattle.sx_tx.specs.declared.kind.Kind.{Kind}
use Rattle.sx_tx.specs.declared.kind.Kind.TheVariants as kind
use Rattle.sx_tx.specs.declared.tx.Tx.{Tx}
use Rattle.sx_tx.specs.Transactions.{IsKind, IsTx}

-- ---- what an actor keeps

-- how many candidates it has, left or decided
abbrev pub weight : Actor → ℕ
weight actor = length actor.left + length actor.done

-- what a stage needs is an amount
abbrev StageForm : Stage → Type 0
StageForm stage.Number = Unit {0}
StageForm (stage.Name word bit) = Unit {0}
StageForm (stage.Look purse need) = need ≤ most_amount
StageForm (stage.Take purse need) = need ≤ most_amount

pub record ActorForm (actor : Actor) : Type 0 where
  pub left : All IsTx actor.left
  pub stage : StageForm actor.stage
  pub done : All IsOutcome actor.done

-- the same, with no more candidates than this
abbrev pub HasForm : ℕ → Actor → Type 0
HasForm most actor = ActorForm actor × (weight actor ≤ most)

-- ---- lists

pub all_nil : {X : Type 0} (P : X → Type 0) → All P []
all_nil P = All-from_recursion P [] tt

one_more : (done : List Outcome) (said : Outcome) → All IsOutcome done → IsOutcome said →
    All IsOutcome (done ++ said ∷ [])
one_more done said are is =
    All-append IsOutcome done (said ∷ []) are (All-from_recursion IsOutcome (said ∷ []) (is, tt))

-- ---- passing over

pub begins : (left : List Tx) (done : List Outcome) → All IsTx left → All IsOutcome done →
    HasForm (length left + length done) (beginning left done)
begins left done are said = (record { left = are; stage = tt; done = said }, omega arith)

passed_form : (parts : Parts) (txs : List Tx) (done : List Outcome) → All IsTx txs → All IsOutcome done →
    HasForm (length txs + length done) (passed parts txs done)
passed_form parts [] done are said = begins [] done are said
passed_form parts (tx ∷ txs) done are said =
    elim (static_of parts tx) as (λ (r : Result (Unit {0}) Static). HasForm (length (tx ∷ txs) + length done) (elim r [
      | Ok passes ↦ beginning (tx ∷ txs) done
      | Err why ↦ passed parts txs (done ++ outcome.Static why ∷ [])
    ])) [
      | Ok passes ↦ begins (tx ∷ txs) done are said
      | Err why ↦
          let others = (recursion_from_All IsTx (tx ∷ txs) are).1 in
          let more = one_more done (outcome.Static why) said tt in
          let rest = passed_form parts txs (done ++ outcome.Static why ∷ []) (All-from_recursion IsTx txs others)
          more in
          let long = length-append done (outcome.Static why ∷ []) in
          (rest.0, omega (arith, rest.1, long))
    ]

ready_form : (parts : Parts) (actor : Actor) (at : Stage) → ActorForm actor →
    HasForm (weight actor) (ready_at parts actor at)
ready_form parts actor stage.Number form = passed_form parts actor.left actor.done form.left form.done
ready_form parts actor (stage.Name word bit) form = (form, omega arith)
ready_form parts actor (stage.Look purse need) form = (form, omega arith)
ready_form parts actor (stage.Take purse need) form = (form, omega arith)

-- ---- what follows

abbrev NextForm : Next → Type 0
NextForm (On at) = StageForm at
NextForm (Decided said) = IsOutcome said

claim_form : (clear taken : Next) (told : Step) → NextForm clear → NextForm taken →
    NextForm (after_claim clear taken told)
claim_form clear taken (step.Seen value) p q = q
claim_form clear taken step.Won p q = q
claim_form clear taken (step.Lost value) p q = q
claim_form clear taken step.Clear p q = p
claim_form clear taken step.Taken p q = q
claim_form clear taken (step.Made name) p q = q
claim_form clear taken step.Joined p q = q

value_form : (purse need value : ℕ) → need ≤ most_amount → NextForm (after_value purse need value)
value_form purse need value small =
    elim (ltb value need) as (λ b. ltb value need ≡ b
    → NextForm (cond b (Decided (outcome.Overdraft value need)) (On (stage.Take purse need)))) [
      | true ↦ λ e. (ltb-true value need e, small)
      | false ↦ λ e. small
    ] refl

purse_form : (purse need : ℕ) (told : Step) → need ≤ most_amount → NextForm (after_purse purse need told)
purse_form purse need (step.Seen value) small = value_form purse need value small
purse_form purse need step.Won small = tt
purse_form purse need (step.Lost value) small = value_form purse need value small
purse_form purse need step.Clear small = tt
purse_form purse need step.Taken small = tt
purse_form purse need (step.Made name) small = tt
purse_form purse need step.Joined small = tt

late_form : (of : Kind) → IsOutcome (too_late of)
late_form (kind.Pay asset to amount) = tt
late_form (kind.Create id) = tt
late_form (kind.Offer sell buy limit amount) = tt
late_form (kind.Cancel sell buy limit seq) = tt

second_form : (parts : Parts) (plan : Plan) (account : ℕ) (of : Kind) → IsKind of →
    StageForm (stage_of (wanted_by parts plan account of))
second_form parts plan account (kind.Pay asset to amount) is = is.2.1
second_form parts plan account (kind.Create id) is = tt
second_form parts plan account (kind.Offer sell buy limit amount) is = is.1.1
second_form parts plan account (kind.Cancel sell buy limit seq) is = tt

follows_form : (of : Kind) (then at : Stage) (told : Step) → StageForm then → StageForm at →
    NextForm (follows of then at told)
follows_form of then stage.Number told p q = claim_form (On then) (Decided outcome.SeqTaken) told p tt
follows_form of then (stage.Name word bit) told p q =
    claim_form (Decided outcome.Accepted) (Decided (too_late of)) told tt (late_form of)
follows_form of then (stage.Look purse need) told p q = purse_form purse need told q
follows_form of then (stage.Take purse need) told p q = purse_form purse need told q

-- ---- a turn

moved_form : (actor : Actor) (tx : Tx) (txs : List Tx) (next : Next) → tx ∷ txs ≡ actor.left → ActorForm actor →
    NextForm next → HasForm (weight actor) (moved actor next)
moved_form actor tx txs (On at) e form good =
    (record { left = form.left; stage = good; done = form.done }, omega arith)
moved_form actor tx txs (Decided said) e form good =
    let after = begins (drop 1 actor.left) (actor.done ++ said ∷ []) (All-drop IsTx 1 actor.left form.left)
    (one_more actor.done said form.done good) in
    let one_less : length (drop 1 actor.left) ≡ length txs = ap (λ (l : List Tx). length (drop 1 l)) (sym e) in
    let long : length actor.left ≡ length (tx ∷ txs) = ap (λ (l : List Tx). length l) (sym e) in
    let more = length-append actor.done (said ∷ []) in
    (after.0, omega (arith, one_less, long, more))

acts : (parts : Parts) (plan : Plan) (state : State) (name : ℕ) (actor : Actor) (txs : List Tx) → txs ≡ actor.left →
    ActorForm actor → HasForm (weight actor) ((acted_at parts plan state name actor txs).1)
acts parts plan state name actor [] e form = (form, omega arith)
acts parts plan state name actor (tx ∷ txs) e form =
    let is = (recursion_from_All IsTx (tx ∷ txs) (subst (λ (l : List Tx). All IsTx l) (sym e) form.left)).0 in
    let told = answer state name (next_event parts plan tx actor.stage) in
    moved_form actor tx txs (what_follows parts plan tx actor.stage told) e form
    (follows_form tx.kind (second parts plan tx) actor.stage told
    (second_form parts plan tx.account.0 tx.kind is.kind) form.stage)

pub acted_form : (parts : Parts) (plan : Plan) (state : State) (name : ℕ) (actor : Actor) → ActorForm actor →
    HasForm (weight actor) ((acted parts plan state name actor).1)
acted_form parts plan state name actor form =
    let now = ready_form parts actor actor.stage form in
    let after = acts parts plan state name (ready parts actor) (ready parts actor).left refl now.0 in
    (after.0, omega (arith, now.1, after.1))
