-- The outcomes of a script can be encoded: there is at most one for each candidate, and each has its form.
use Rattle.std.proofs.Common.{◌≡◌, ℕ, zero, suc, ◌+◌, ◌-◌, ◌*◌, ◌/◌, ◌<◌, ◌≤◌, true, false, cond, ltb, List, [], ◌∷◌}
use Rattle.std.proofs.Common.{length, map, take, drop, refl, ap, arith}
use Rattle.std.specs.List.{All, flat_map, range_with_len, slice_range, sum_by}
use Rattle.std.proofs.Math.Nat.{div-le_of_le-mul, div-mul-le_self, mul-le-mul_left, mul_comm}
use Rattle.std.proofs.lemmas.Bool.{ltb-true}
use Rattle.std.proofs.lemmas.List.Concat.{length-flat_map}
use Rattle.std.proofs.lemmas.List.Elements.{All-append, All-drop, All-from_recursion, All-get_or, All-set}
use Rattle.std.proofs.lemmas.List.Elements.{All-take, recursion_from_All}
use Rattle.std.proofs.lemmas.List.Sums.{sum_by-cons, sum_by-set}
use Rattle.std.proofs.lemmas.Nat.{le-div}
use Rattle.sx_script.specs.Actors.{Actor, actor_of, all_starting, beginning, part_begin, starting, working}
use Rattle.sx_outcome.specs.Outcomes.{IsOutcome}
use Rattle.sx_layout.specs.Plan.{Plan, plan_of}
use Rattle.sx_script.specs.RunForm.{OutcomesKeepForm}
use Rattle.sx_script.specs.Running.{Run, acted, after_own, after_turns, all_to_end, closing_run, opening_run, own_turn}
use Rattle.sx_script.specs.Running.{turn}
use Rattle.sx_script.proofs.ActorForm.{ActorForm, acted_form, all_nil, begins, weight}
use Rattle.sx_ledger.specs.declared.parts.Parts.{Parts}
use Rattle.sx_tx.specs.declared.tx.Tx.{Tx}
use Rattle.sx_tx.specs.Transactions.{IsTx}

-- all actors have their form, and together no more candidates than this
record RunForm (most : ℕ) (run : Run) : Type 0 where
  each : All ActorForm run.actors
  few : sum_by weight run.actors ≤ most

-- ---- turns

own_form : (parts : Parts) (plan : Plan) (name most : ℕ) (run : Run) → name < length run.actors → RunForm most run →
    RunForm most (own_turn parts plan name run)
own_form parts plan name most run within form =
    let before = All-get_or ActorForm run.actors name (beginning [] []) within form.each in
    let actor = actor_of run.actors name in
    let after = acted_form parts plan run.state name actor before in
    let made = (acted parts plan run.state name actor).1 in
    let sums = sum_by-set weight run.actors name made (beginning [] []) within in
    record {
      each = All-set ActorForm run.actors name made after.0 form.each;
      few = omega (arith, sums, after.1, form.few);
    }

turn_form : (parts : Parts) (plan : Plan) (name most : ℕ) (run : Run) → RunForm most run →
    RunForm most (turn parts plan name run)
turn_form parts plan name most run form =
    elim (ltb name (length run.actors)) as (λ b. ltb name (length run.actors) ≡ b
    → RunForm most (cond b (own_turn parts plan name run) run)) [
      | true ↦ λ e. own_form parts plan name most run (ltb-true name (length run.actors) e) form
      | false ↦ λ e. form
    ] refl

turns_form : (parts : Parts) (plan : Plan) (most : ℕ) (names : List ℕ) (run : Run) → RunForm most run →
    RunForm most (after_turns parts plan names run)
turns_form parts plan most [] run form = form
turns_form parts plan most (name ∷ names) run form =
    turns_form parts plan most names (turn parts plan name run) (turn_form parts plan name most run form)

own_turns_form : (parts : Parts) (plan : Plan) (name most n : ℕ) (run : Run) → RunForm most run →
    RunForm most (after_own parts plan name n run)
own_turns_form parts plan name most zero run form = form
own_turns_form parts plan name most (suc n) run form =
    turn_form parts plan name most (after_own parts plan name n run)
    (own_turns_form parts plan name most n run form)

ends_form : (parts : Parts) (plan : Plan) (most n : ℕ) (run : Run) → RunForm most run →
    RunForm most (all_to_end parts plan n run)
ends_form parts plan most zero run form = form
ends_form parts plan most (suc n) run form =
    own_turns_form parts plan n most _ (all_to_end parts plan n run) (ends_form parts plan most n run form)

-- ---- before the first turn

-- a part does not end before it begins, and the last one ends with the candidates
onward : (count n k : ℕ) → 0 < n → part_begin count n k ≤ part_begin count n (k + 1)
onward count n k some =
    let low = div-mul-le_self (count * k) n in
    let more = mul-le-mul_left count (let le : k ≤ k + 1 = omega arith in le) in
    le-div (count * k / n) (count * (k + 1)) n some (omega (arith, low, more))

to_the_end : (count n : ℕ) → count * n / n ≤ count
to_the_end count n = div-le_of_le-mul n (let same = mul_comm count n in omega (arith, same))

-- an actor at the beginning
starts : (candidates : List Tx) (n k : ℕ) → All IsTx candidates → ActorForm (starting candidates n k)
starts candidates n k are =
    let count = length candidates in
    let from = part_begin count n k in
    let long = part_begin count n (k + 1) - from in
    (begins (slice_range candidates from (part_begin count n (k + 1))) []
    (All-take IsTx long (drop from candidates) (All-drop IsTx from candidates are)) (all_nil IsOutcome)).0

starts_all : (candidates : List Tx) (n : ℕ) → All IsTx candidates → (ks : List ℕ) →
    All ActorForm (map (starting candidates n) ks)
starts_all candidates n are [] = all_nil ActorForm
starts_all candidates n are (k ∷ ks) =
    All-from_recursion ActorForm (map (starting candidates n) (k ∷ ks)) (
      starts candidates n k are,
      recursion_from_All ActorForm (map (starting candidates n) ks) (starts_all candidates n are ks),
    )

length-take-at-most : {X : Type 0} (n : ℕ) (xs : List X) → length (take n xs) ≤ n
length-take-at-most zero xs = omega arith
length-take-at-most (suc n) [] = omega arith
length-take-at-most (suc n) (x ∷ xs) = let others = length-take-at-most n xs in omega (arith, others)

weight_at_start : (candidates : List Tx) (n k : ℕ) → 0 < n →
    weight (starting candidates n k) + part_begin (length candidates) n k ≤ part_begin (length candidates) n (k + 1)
weight_at_start candidates n k some =
    let count = length candidates in
    let from = part_begin count n k in
    let long = part_begin count n (k + 1) - from in
    let least = length-take-at-most long (drop from candidates) in
    let up = onward count n k some in
    omega (arith, least, up)

weights : (candidates : List Tx) (n k m end : ℕ) → 0 < n → end ≡ k + m →
    sum_by weight (map (starting candidates n) (range_with_len k m)) + part_begin (length candidates) n k
    ≤ part_begin (length candidates) n end
weights candidates n k zero end some e =
    let same : end ≡ k = omega arith in
    let at = ap (part_begin (length candidates) n) same in
    omega (arith, at)
weights candidates n k (suc m) end some e =
    let first = weight_at_start candidates n k some in
    let others = weights candidates n (k + 1) m end some (omega arith) in
    let sums = sum_by-cons weight (starting candidates n k) (map (starting candidates n) (range_with_len (k + 1) m)) in
    omega (arith, first, others, sums)

weights_at_start : (candidates : List Tx) (n : ℕ) → sum_by weight (all_starting candidates n) ≤ length candidates
weights_at_start candidates zero = omega arith
weights_at_start candidates (suc n) =
    let sums = weights candidates (suc n) 0 (suc n) (suc n) (omega arith) (omega arith) in
    let end = to_the_end (length candidates) (suc n) in
    omega (arith, sums, end)

opening_form : (parts : Parts) (plan : Plan) (candidates : List Tx) (n : ℕ) → All IsTx candidates →
    RunForm (length candidates) (opening_run parts plan candidates n)
opening_form parts plan candidates n are = record {
  each = starts_all candidates n are (range_with_len 0 n);
  few = weights_at_start candidates n;
}

closing_form : (parts : Parts) (candidates : List Tx) (actors : ℕ) (turns : List ℕ) → All IsTx candidates →
    RunForm (length candidates) (closing_run parts candidates actors turns)
closing_form parts candidates actors turns are =
    let plan = plan_of parts candidates 1 in
    let n = working actors (length candidates) in
    let most = length candidates in
    let opening = opening_run parts plan candidates n in
    ends_form parts plan most n (after_turns parts plan turns opening)
    (turns_form parts plan most turns opening (opening_form parts plan candidates n are))

-- ---- the outcomes

all_done : (actors : List Actor) → All ActorForm actors → All IsOutcome (flat_map (λ actor. actor.done) actors)
all_done [] forms = all_nil IsOutcome
all_done (actor ∷ actors) forms =
    let both = recursion_from_All ActorForm (actor ∷ actors) forms in
    All-append IsOutcome actor.done (flat_map (λ actor. actor.done) actors) both.0.done
    (all_done actors (All-from_recursion ActorForm actors both.1))

few_done : (actors : List Actor) → sum_by (λ actor. length actor.done) actors ≤ sum_by weight actors
few_done [] = omega arith
few_done (actor ∷ actors) =
    let others = few_done actors in
    let done = sum_by-cons (λ (one : Actor). length one.done) actor actors in
    let all = sum_by-cons weight actor actors in
    omega (arith, others, done, all)

pub outcomes_keep_form : OutcomesKeepForm
outcomes_keep_form parts candidates actors turns is =
    let form = closing_form parts candidates actors turns is.each in
    let ended = (closing_run parts candidates actors turns).actors in
    let many = length-flat_map (λ (actor : Actor). actor.done) ended in
    let done = few_done ended in
    record { few = omega (arith, many, done, form.few, is.few); each = all_done ended form.each }
