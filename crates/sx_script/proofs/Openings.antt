-- Before the first turn the next event of each actor is allowed, and it stays so.
use Rattle.std.proofs.Common.{◌≡◌, ◌≢◌, ℕ, zero, suc, ◌+◌, ◌-◌, ◌*◌, ◌/◌, ◌^◌, ◌<◌, ◌≤◌, true, List, [], ◌∷◌}
use Rattle.std.proofs.Common.{◌++◌, Ok, Err}
use Rattle.std.proofs.Common.{length, get_or, take, drop, max, refl, sym, ap, subst, ◌∙◌, inl, inr, arith}
use Rattle.std.proofs.Common.{length-set}
use Rattle.std.proofs.Common.{get_or-set_same, get_or-set_other, length-take, length-drop}
use Rattle.std.specs.Prelude.{Contains, IfOk, Result, slice_set}
use Rattle.std.specs.List.{All, range_with_len, slice_range}
use Rattle.std.proofs.Math.Nat.{div-mul-le_self, mul-le-mul_left}
use Rattle.std.proofs.lemmas.Bool.{cases_eq}
use Rattle.std.proofs.lemmas.List.{get_or_append_left, get_or_at, get_or_default, get_or-take, get_or-drop}
use Rattle.std.proofs.lemmas.List.{get_or-map, length-map}
use Rattle.std.proofs.lemmas.List.{length_push}
use Rattle.std.proofs.lemmas.Nat.{div_below, le-div}
use Rattle.sx_event.specs.declared.event.Event.TheVariants.{Split}
use Rattle.sx_event.specs.State.{State, begun, view_of}
use Rattle.sx_event.specs.Step.{StepAllowed, stepped, left_part, right_part}
use Rattle.sx_event.specs.View.{View, opened, spent}
use Rattle.sx_outcome.specs.declared.outcome.Outcome.{Outcome}
use Rattle.sx_script.specs.Actors.{Actor, actor_of, after_splits, all_starting, beginning, part_begin, starting}
use Rattle.sx_script.specs.Actors.{working}
use Rattle.sx_layout.specs.Plan.{Plan, plan_of, words_of}
use Rattle.sx_script.specs.Running.{Run, after_turns, all_to_end, done_of_run, opening_run, outcomes_of_run}
use Rattle.sx_script.specs.RunKeeps.{ActorFits, RunFits, WordsStay}
use Rattle.sx_layout.specs.Setting.{Setting}
use Rattle.sx_script.specs.RunOf.{Fit, run_of}
use Rattle.sx_tx.specs.declared.tx.Tx.{Tx}

-- ---- where parts begin

begin_rises : (count n k : ℕ) → 1 ≤ n → n ≤ count → part_begin count n k < part_begin count n (k + 1)
begin_rises count n k some enough =
    let q = count * k / n in
    let whole : q * n ≤ count * k = div-mul-le_self (count * k) n in
    let one : (q + 1) * n ≡ q * n + n = omega arith in
    let more : count * (k + 1) ≡ count * k + count = omega arith in
    let reach : (q + 1) * n ≤ count * (k + 1) = omega arith in
    let le = le-div (q + 1) (count * (k + 1)) n some reach in
    omega (arith, le)

begin_below : (count n k : ℕ) → k < n → 1 ≤ count → part_begin count n k < count
begin_below count n k below some =
    let more : count * (k + 1) ≡ count * k + count = omega arith in
    let grows : count * (k + 1) ≤ count * n = mul-le-mul_left {m = k + 1} {n = n} count (omega arith) in
    div_below (count * k) n count (omega arith) (omega arith)

pub begin_within : (count n k : ℕ) → 1 ≤ n → k ≤ n → part_begin count n k ≤ count
begin_within count n k some within =
    let grows : count * k ≤ count * n = mul-le-mul_left {m = k} {n = n} count within in
    let next : (count + 1) * n ≡ count * n + n = omega arith in
    let below : count * k / n < count + 1 = div_below (count * k) n (count + 1) some (omega arith) in
    omega arith

pub begin_weakly : (count n k : ℕ) → 1 ≤ n → part_begin count n k ≤ part_begin count n (k + 1)
begin_weakly count n k some =
    let q = count * k / n in
    let whole : q * n ≤ count * k = div-mul-le_self (count * k) n in
    let more : count * (k + 1) ≡ count * k + count = omega arith in
    le-div q (count * (k + 1)) n some (omega arith)

pub begin_first : (count n : ℕ) → 1 ≤ n → part_begin count n 0 ≡ 0
begin_first count n some =
    let none : count * 0 ≡ 0 = omega arith in
    let below : count * 0 / n < 1 = div_below (count * 0) n 1 some (omega arith) in
    omega arith

-- ---- the views

-- after k splits there are k + 1 live views, and the last has all candidates that come after the others'
pub record SplitsFit (first_purses first_bits : List ℕ) (count n k : ℕ) (s : State) : Type 0 where
  pub made : length s.views ≡ k + 1
  pub last : view_of s k ≡ opened (part_begin count n k) count
  pub live : (j : ℕ) → j ≤ k → (view_of s j).live ≡ true
  pub purses : s.purses ≡ first_purses
  pub bits : s.bits ≡ first_bits

module _ (purses bits : List ℕ) (count n : ℕ) (some : 1 ≤ n) (enough : 1 < n → n ≤ count) where
  split_next : (k : ℕ) (s : State) → suc k < n → SplitsFit purses bits count n k s
      → SplitsFit purses bits count n (suc k) (stepped s k (Split (part_begin count n (k + 1))))
  split_next k s below before =
      let at = part_begin count n (k + 1) in
      let view = view_of s k in
      let kept = slice_set s.views k (left_part view at) in
      let made : length kept ≡ suc k = length-set s.views k (left_part view at) ∙ before.made ∙ omega arith in
      let within : k < length s.views = omega (arith, before.made) in
      let new : get_or (kept ++ right_part view at ∷ []) (suc k) spent ≡ right_part view at =
      get_or_at kept (right_part view at) [] spent (suc k) made in
      let is : right_part view at ≡ opened (part_begin count n (suc k)) count =
      (let one : k + 1 ≡ suc k = omega arith in
      λ i. opened (part_begin count n (one i)) ((before.last i).end)) in
      record {
        made = length_push kept (right_part view at) ∙ omega (arith, made);
        last = new ∙ is;
        live =
            λ j le. elim (cases_eq j (suc k)) [
              | inl e ↦ ap (λ (m : ℕ). (get_or (kept ++ right_part view at ∷ []) m spent).live) e
                  ∙ ap (λ (v : View). v.live) new
              | inr ne ↦
                  let lt : j < length kept = omega arith in
                  ap (λ (v : View). v.live) (get_or_append_left kept (right_part view at ∷ []) spent j lt)
                  ∙ elim (cases_eq j k) [
                    | inl e ↦ ap (λ (m : ℕ). (get_or kept m spent).live) e
                        ∙ ap (λ (v : View). v.live) (get_or-set_same s.views k (left_part view at) spent within)
                        ∙ before.live k (omega arith)
                    | inr other ↦ ap (λ (v : View). v.live)
                        (get_or-set_other s.views k j (left_part view at) spent other)
                        ∙ before.live j (omega arith)
                  ]
            ];
        purses = before.purses;
        bits = before.bits;
      }

  pub splits_fit : (k : ℕ) → k < n → SplitsFit purses bits count n k (after_splits count n k (begun purses bits count))
  splits_fit zero below = record {
    made = refl;
    last = ap (λ (from : ℕ). opened from count) (sym (begin_first count n some));
    live = first;
    purses = refl;
    bits = refl;
  }
    where
      first : (j : ℕ) → j ≤ 0 → (get_or (opened 0 count ∷ []) j spent).live ≡ true
      first zero le = refl
      first (suc j) le = absurd (omega arith)
  splits_fit (suc k) below = split_next k (after_splits count n k (begun purses bits count)) below
      (splits_fit k (omega arith))

  pub split_allowed : (k : ℕ) (state : State) → k + 1 < n → n ≤ 8
      → state ≡ after_splits count n k (begun purses bits count)
      → StepAllowed state k (Split (part_begin count n (k + 1)))
  split_allowed k state below few is =
      let at = part_begin count n (k + 1) in
      let s = after_splits count n k (begun purses bits count) in
      let f = splits_fit k (omega arith) in
      let all : n ≤ count = enough (omega arith) in
      let P : View → Type 0 = λ v. (v.from < at) × (at < v.end) × (length s.views < 2 ^ 32 - 1) in
      subst (λ (x : State). StepAllowed x k (Split at)) (sym is) (
        f.live k (omega arith),
        subst P (sym f.last)
            (begin_rises count n k some all, begin_below count n (k + 1) below (omega arith), omega (arith, f.made)),
      )

-- ---- the actors

part_own : (xs : List Tx) (b e : ℕ) → All (Contains xs) (slice_range xs b e)
part_own xs b e k d lt =
    let part = take (e - b) (drop b xs) in
    let size = length-take (e - b) (drop b xs) in
    let rest = length-drop b xs in
    let in_range : b + k < length xs = omega (arith, size, rest) in
    let x = get_or part k d in
    let is : get_or xs (b + k) d ≡ x =
    sym (get_or-drop b xs k d) ∙ sym (get_or-take (e - b) (drop b xs) k d (omega (arith, size))) in
    (b + k, in_range, get_or_default xs (b + k) x d in_range ∙ is)

length-range : (a n : ℕ) → length (range_with_len a n) ≡ n
length-range a zero = refl
length-range a (suc n) = let rest = length-range (a + 1) n in omega (arith, rest)

get_or-range : (a n k d : ℕ) → k < n → get_or (range_with_len a n) k d ≡ a + k
get_or-range a zero k d lt = absurd (omega arith)
get_or-range a (suc n) zero d lt = omega arith
get_or-range a (suc n) (suc k) d lt = let rest = get_or-range (a + 1) n k d (omega arith) in omega (arith, rest)

pub how_many : (candidates : List Tx) (n : ℕ) → length (all_starting candidates n) ≡ n
how_many candidates n = length-map (range_with_len 0 n) (starting candidates n) ∙ length-range 0 n

pub starting_at : (candidates : List Tx) (n k : ℕ) → k < n →
    actor_of (all_starting candidates n) k ≡ starting candidates n k
starting_at candidates n k lt =
    let size = length-range 0 n in
    let at : get_or (range_with_len 0 n) k 0 ≡ k = get_or-range 0 n k 0 lt ∙ omega arith in
    get_or-map (starting candidates n) (range_with_len 0 n) k 0 (beginning [] []) (omega (arith, size))
    ∙ ap (starting candidates n) at

pub opening_fits : (s : Setting) (n : ℕ) (state : State) (hands : List Actor) → 1 ≤ n
    → n ≤ max 1 (length s.candidates) → state ≡ (opening_run s.parts s.plan s.candidates n).state
    → hands ≡ all_starting s.candidates n → Fit s state hands
opening_fits s n state hands some enough state_is hands_is =
    let count = length s.candidates in
    let purses = words_of s.plan.purses 0 in
    let bits = words_of s.plan.bits 0 in
    let f = splits_fit purses bits count n some (λ (more : 1 < n). omega arith) (n - 1) (omega arith) in
    let fits : Fit s (after_splits count n (n - 1) (begun purses bits count)) (all_starting s.candidates n) = record {
      words = record { purses = ap length f.purses; bits = ap length f.bits };
      actors = λ name lt.
          let below : name < n = omega (arith, how_many s.candidates n) in
          subst
          (λ (a : Actor). ActorFits s.candidates (after_splits count n (n - 1) (begun purses bits count)) name a)
          (sym (starting_at s.candidates n name below))
          (record {
            live = f.live name (omega arith);
            stage = tt;
            own =
                part_own s.candidates (part_begin count n name) (part_begin count n (name + 1));
          });
    } in
    subst (λ (x : State). Fit s x hands) (sym state_is)
    (subst (λ (h : List Actor). Fit s (after_splits count n (n - 1) (begun purses bits count)) h) (sym hands_is) fits)

-- ---- a turn of one of the actors

pub turn_fits : (candidates : List Tx) (plan : Plan) (state after : State) (hands : List Actor) (name : ℕ)
    (hand : Actor)
    → name < length hands → WordsStay plan after → ActorFits candidates after name hand
    → ((other : ℕ) (actor : Actor) → other ≢ name → ActorFits candidates state other actor
    → ActorFits candidates after other actor)
    → ((k : ℕ) → k < length hands → ActorFits candidates state k (actor_of hands k))
    → RunFits candidates plan (run_of after (slice_set hands name hand))
turn_fits candidates plan state after hands name hand in_range words fits others before = record {
  words = words;
  actors = λ k lt.
      let within : k < length hands = omega (arith, length-set hands name hand) in
      elim (cases_eq k name) [
        | inl e ↦
            let P : ℕ → Type 0 = λ j. ActorFits candidates after j (actor_of (slice_set hands name hand) j) in
            subst P (sym e)
            (subst (λ (a : Actor). ActorFits candidates after name a)
            (sym (get_or-set_same hands name hand (beginning [] []) in_range)) fits)
        | inr ne ↦
            subst (λ (a : Actor). ActorFits candidates after k a)
            (sym (get_or-set_other hands name k hand (beginning [] []) ne))
            (others k (actor_of hands k) ne (before k within))
      ];
}

-- one more split
pub next_splits : (purses bits : List ℕ) (count n k at : ℕ) (state after : State)
    → state ≡ after_splits count n k (begun purses bits count) → at ≡ part_begin count n (k + 1)
    → after ≡ stepped state k (Split at) → after ≡ after_splits count n (k + 1) (begun purses bits count)
next_splits purses bits count n k at state after state_is at_is after_is =
    let one : k + 1 ≡ suc k = omega arith in
    after_is ∙ (λ i. stepped (state_is i) k (Split (at_is i)))
    ∙ ap (λ (m : ℕ). after_splits count n m (begun purses bits count)) (sym one)

-- ---- the outcomes of a whole run

pub if_ok : {T E : Type 0} (r : Result T E) (P Q : T → Type 0) → ((x : T) → P x → Q x) → IfOk r P → IfOk r Q
if_ok (Ok x) P Q f holds = f x holds
if_ok (Err e) P Q f holds = tt

done_by : Setting → ℕ → List ℕ → Run → List Outcome
done_by s n turns run = done_of_run (all_to_end s.parts s.plan n (after_turns s.parts s.plan turns run))

-- those of actors that are made before the first turn
pub opened_outcomes : (s : Setting) (n : ℕ) (turns : List ℕ) (state : State) (hands : List Actor)
    → state ≡ (opening_run s.parts s.plan s.candidates n).state → hands ≡ all_starting s.candidates n
    → done_of_run (all_to_end s.parts s.plan (length hands) (after_turns s.parts s.plan turns (run_of state hands)))
    ≡ done_of_run
    (all_to_end s.parts s.plan n (after_turns s.parts s.plan turns (opening_run s.parts s.plan s.candidates n)))
unfolding done_by
opened_outcomes s n turns state hands state_is hands_is =
    let size : length hands ≡ n = ap (λ (h : List Actor). length h) hands_is ∙ how_many s.candidates n in
    λ i. done_by s (size i) turns (run_of (state_is i) (hands_is i))

-- those of as many actors as work, with all words in one shard
pub whole_outcomes : (s : Setting) (candidates : List Tx) (actors n : ℕ) (turns : List ℕ) → candidates ≡ s.candidates
    → s.plan ≡ plan_of s.parts s.candidates 1 → n ≡ working actors (length candidates)
    → done_of_run
    (all_to_end s.parts s.plan n (after_turns s.parts s.plan turns (opening_run s.parts s.plan s.candidates n)))
    ≡ outcomes_of_run s.parts s.candidates actors turns
unfolding done_by
whole_outcomes s candidates actors n turns own plan_is n_is =
    let size : n ≡ working actors (length s.candidates) =
    n_is ∙ ap (λ (list : List Tx). working actors (length list)) own in
    ap (λ (k : ℕ). done_by s k turns (opening_run s.parts s.plan s.candidates k)) size
    ∙ ap
    (λ (plan : Plan). done_by (record { parts = s.parts; candidates = s.candidates; plan = plan })
    (working actors (length s.candidates)) turns
    (opening_run s.parts plan s.candidates (working actors (length s.candidates)))) plan_is
