-- A script closes at words that stand for its outcomes, and so its outcomes are outcomes of gathering.
use Rattle.std.proofs.Common.{◌≡◌, ℕ, suc, ◌+◌, ◌*◌, ◌<◌, ◌≤◌, List, [], ◌++◌, length, drop}
use Rattle.std.proofs.Common.{Ok, sum_by}
use Rattle.std.proofs.Common.{refl, sym, ap, subst, ◌∙◌, arith, append-nil}
use Rattle.std.specs.Prelude.{slice_index}
use Rattle.std.specs.List.{flat_map}
use Rattle.std.proofs.lemmas.List.{drop_all}
use Rattle.std.proofs.lemmas.Nat.{le-div}
use Rattle.std.specs.Int.{bit_at}
use Rattle.sx_event.specs.declared.marks.Claim.{Claim}
use Rattle.sx_event.specs.Rule.{BitsAddUp, PursesAddUp, bit_in, debit_in, debits as claimed_debits, times}
use Rattle.sx_event.specs.State.{State, view_of}
use Rattle.sx_event.specs.View.{View, spent}
use Rattle.sx_outcome.specs.declared.outcome.Outcome.{Outcome}
use Rattle.sx_script.specs.Actors.{Actor, actor_of, beginning, part_begin, working}
use Rattle.sx_outcome.specs.Gathering.{IsGathered, body_of, decisions}
use Rattle.sx_layout.specs.Marks.{Closes, IsClosing, marks}
use Rattle.sx_layout.specs.Plan.{plan_of, words_of}
use Rattle.sx_outcome.specs.Room.{room_for}
use Rattle.sx_script.specs.RunKeeps.{IsOneShard}
use Rattle.sx_layout.specs.Setting.{Setting}
use Rattle.sx_script.specs.Running.{Run, after_turns, closing_run, opening_run, outcomes_of_run}
use Rattle.sx_layout.proofs.ClosingLaw.{closing_gathers}
use Rattle.sx_outcome.proofs.DecidedPairs.{AreDecided, decided_at, decided_length}
use Rattle.sx_script.proofs.Openings.{begin_first, begin_weakly, how_many}
use Rattle.sx_outcome.proofs.PartLists.{all_parts, joined, joined_flat, sum_of, sum_of_list}
use Rattle.sx_script.proofs.RunEnds.{all_empty, ends_many, turns_many}
use Rattle.sx_script.proofs.RunHolds.{RunHolds, ends_hold, turns_hold}
use Rattle.sx_script.proofs.RunOpens.{opening_holds, part_of}
use Rattle.sx_outcome.specs.Scripts.{most_actors}
use Rattle.sx_ledger.specs.declared.parts.Parts.{Parts}
use Rattle.sx_ledger.specs.Ledger.{IsLedger}
use Rattle.sx_tx.specs.declared.tx.Tx.{Tx}
use Rattle.sx_tx.specs.Transactions.{IsTxList}
use Rattle.sx_script.proofs.RunDone.{IsDone, all_decided, all_marks, is_done}

-- ---- the parts of the candidates

begin_last : (count n : ℕ) → 1 ≤ n → count ≤ part_begin count n n
begin_last count n some = le-div count (count * n) n some (omega arith)

parts_join : (candidates : List Tx) (n : ℕ) → 1 ≤ n → candidates ≡ joined (part_of candidates n) n
parts_join candidates n some =
    let count = length candidates in
    let begin : ℕ → ℕ = part_begin count n in
    let whole = all_parts candidates begin (λ k. begin (k + 1)) n (λ k. begin_weakly count n k some)
    (λ k. ap begin (let one : k + 1 ≡ suc k = omega arith in one)) in
    let nothing : drop (begin n) candidates ≡ [] = drop_all (begin n) candidates (begin_last count n some) in
    ap (λ (m : ℕ). drop m candidates) (sym (begin_first count n some)) ∙ whole
    ∙ ap (λ (rest : List Tx). joined (part_of candidates n) n ++ rest) nothing
    ∙ append-nil (joined (part_of candidates n) n)

-- ---- the words at the end

module _ (s : Setting) (is : IsOneShard s) (n : ℕ) (some : 1 ≤ n) (run : Run) (many : length run.actors ≡ n)
    (holds : RunHolds s (part_of s.candidates n) run)
    (empty : (k : ℕ) → k < n → (actor_of run.actors k).left ≡ []) where
  abbrev state : State
  state = run.state

  abbrev said : List Outcome
  said = flat_map (λ actor. actor.done) run.actors

  each : (k : ℕ) → k < n → IsDone s.parts s.plan state.purses state.bits (part_of s.candidates n k)
      (actor_of run.actors k).done (view_of state k).claims
  each k lt =
      is_done s.parts s.plan state.purses state.bits (part_of s.candidates n k) (actor_of run.actors k)
      (view_of state k).claims (empty k lt) (holds.keeps k (omega (arith, lt, many)))

  said_is : said ≡ joined (λ k. (actor_of run.actors k).done) n
  said_is =
      joined_flat (λ (actor : Actor). actor.done) run.actors (beginning [] [])
      ∙ ap (joined (λ k. (actor_of run.actors k).done)) many

  pub decided : AreDecided (Closes s.parts s.plan (λ shard. state.purses) (λ shard. state.bits)) s.candidates said
  decided =
      let P = Closes s.parts s.plan (λ shard. state.purses) (λ shard. state.bits) in
      subst (λ (txs : List Tx). AreDecided P txs said) (sym (parts_join s.candidates n some))
      (subst (AreDecided P (joined (part_of s.candidates n) n)) (sym said_is)
      (all_decided s.parts s.plan state.purses state.bits n (part_of s.candidates n)
      (λ k. (actor_of run.actors k).done) (λ k. (view_of state k).claims) each))

  sums : (f : Claim → ℕ) → sum_by f (marks s.parts s.plan 0 (decisions s.candidates said))
      ≡ sum_by (λ (view : View). sum_by f view.claims) state.views
  sums f =
      let count : length state.views ≡ n = holds.many ∙ many in
      ap (λ (txs : List Tx). sum_by f (marks s.parts s.plan 0 (decisions txs said))) (parts_join s.candidates n some)
      ∙ ap (λ (outcomes : List Outcome). sum_by f
      (marks s.parts s.plan 0 (decisions (joined (part_of s.candidates n) n) outcomes))) said_is
      ∙ all_marks s.parts s.plan state.purses state.bits f n (part_of s.candidates n)
      (λ k. (actor_of run.actors k).done) (λ k. (view_of state k).claims) each
      ∙ ap (sum_of (λ k. sum_by f (view_of state k).claims)) (sym count)
      ∙ sym (sum_of_list (λ (view : View). sum_by f view.claims) state.views spent)

  pub purses_add_up : PursesAddUp (words_of s.plan.purses 0) state.purses
      (claimed_debits (marks s.parts s.plan 0 (decisions s.candidates said)))
  purses_add_up = record {
    as_many = holds.rule.purses.as_many ∙ ap (λ (words : List ℕ). length words) holds.opens.purses;
    adds_up = λ purse.
        let adds = holds.rule.purses.adds_up purse in
        let sum = sums (debit_in purse) in
        let first = ap (λ (words : List ℕ). slice_index words purse) holds.opens.purses in
        omega (arith, adds, sum, first);
  }

  pub bits_add_up : BitsAddUp (words_of s.plan.bits 0) state.bits
      (times (marks s.parts s.plan 0 (decisions s.candidates said)))
  bits_add_up = record {
    as_many = holds.rule.bits.as_many ∙ ap (λ (words : List ℕ). length words) holds.opens.bits;
    adds_up = λ word bit.
        let adds = holds.rule.bits.adds_up word bit in
        let sum = sums (bit_in word bit) in
        let first = ap (λ (words : List ℕ). bit_at (slice_index words word) bit) holds.opens.bits in
        omega (arith, adds, sum, first);
  }

-- ---- the law

-- whatever the actors and the order of their turns
pub run_gathers : (parts : Parts) (candidates : List Tx) (actors : ℕ) (turns : List ℕ) → IsLedger parts
    → IsTxList candidates → room_for parts candidates ≡ Ok tt → actors ≤ most_actors
    → IsGathered parts candidates (outcomes_of_run parts candidates actors turns)
    (body_of (decisions candidates (outcomes_of_run parts candidates actors turns)))
run_gathers parts candidates actors turns ledger form room few =
    let s : Setting = record { parts = parts; candidates = candidates; plan = plan_of parts candidates 1 } in
    let is : IsOneShard s = record {
      laid_out = record {
        ledger = ledger;
        few_candidates = form.few;
        some_shard = omega arith;
        few_shards = omega arith;
      };
      plan = refl;
    } in
    let count = length candidates in
    let n = working actors count in
    let part = part_of candidates n in
    let opening = opening_run parts s.plan candidates n in
    let before = after_turns parts s.plan turns opening in
    let run = closing_run parts candidates actors turns in
    let at_work : 1 ≤ n = omega arith in
    let opens = opening_holds s n at_work (omega (arith, few)) (omega arith) in
    let turned = turns_hold s is form.each part turns opening opens in
    let holds : RunHolds s part run = ends_hold s is form.each part n before turned in
    let early : length before.actors ≡ n = turns_many parts s.plan turns opening ∙ how_many candidates n in
    let many : length run.actors ≡ n = ends_many parts s.plan n before ∙ early in
    let empty = all_empty s is form.each part n before (omega (arith, early)) turned in
    let said = outcomes_of_run parts candidates actors turns in
    let purses : ℕ → List ℕ = λ shard. run.state.purses in
    let bits : ℕ → List ℕ = λ shard. run.state.bits in
    let P = Closes parts s.plan purses bits in
    let all : AreDecided P candidates said = decided s is n at_work run many holds empty in
    let first : (shard : ℕ) → shard < 1 → 0 ≡ shard = λ shard lt. omega (arith, lt) in
    let closing : IsClosing parts candidates 1 said purses bits = record {
      laid_out = is.laid_out;
      room = room;
      one_each = decided_length P candidates said all;
      closes = decided_at P candidates said all;
      purses_add_up = λ shard lt.
          subst (λ (k : ℕ). PursesAddUp (words_of s.plan.purses k) run.state.purses
          (claimed_debits (marks parts s.plan k (decisions candidates said))))
          (first shard lt) (purses_add_up s is n at_work run many holds empty);
      bits_add_up = λ shard lt.
          subst (λ (k : ℕ). BitsAddUp (words_of s.plan.bits k) run.state.bits
          (times (marks parts s.plan k (decisions candidates said))))
          (first shard lt) (bits_add_up s is n at_work run many holds empty);
    } in
    closing_gathers parts candidates 1 said purses bits closing
