-- What holds before the first turn of a script.
use Rattle.std.proofs.Common.{◌≡◌, ℕ, zero, suc, ◌+◌, ◌-◌, ◌<◌, ◌≤◌, List, [], ◌∷◌, ◌++◌, length, get_or, max, refl}
use Rattle.std.proofs.Common.{sym}
use Rattle.std.proofs.Common.{ap, subst, ◌∙◌, inl, inr, arith, get_or-set_same, get_or-set_other}
use Rattle.std.specs.Prelude.{slice_set}
use Rattle.std.specs.List.{slice_range}
use Rattle.std.proofs.lemmas.Bool.{cases_eq, cases_lt}
use Rattle.std.proofs.lemmas.List.{get_or_append_left, get_or_at, get_or_past, length_push}
use Rattle.sx_event.specs.declared.marks.Claim.{Claim}
use Rattle.sx_event.specs.Rule.{Rule}
use Rattle.sx_event.specs.State.{State, begun, view_of}
use Rattle.sx_event.specs.Step.{left_part, right_part}
use Rattle.sx_event.specs.View.{View, opened, spent}
use Rattle.sx_event.proofs.Keeping.{split_keeps}
use Rattle.sx_event.proofs.Runs.{begun_keeps}
use Rattle.sx_script.specs.Actors.{Actor, after_splits, all_starting, part_begin, starting}
use Rattle.sx_layout.specs.Plan.{Plan, words_of}
use Rattle.sx_script.specs.Running.{opening_run}
use Rattle.sx_layout.specs.Setting.{Setting}
use Rattle.sx_script.proofs.ActorMarks.{ActorKeeps, number_first, number_pending}
use Rattle.sx_script.proofs.Openings.{how_many, opening_fits, split_allowed, splits_fit, starting_at}
use Rattle.sx_script.proofs.OwnStep.{OpensAs}
use Rattle.sx_script.proofs.RunHolds.{RunHolds}
use Rattle.sx_tx.specs.declared.tx.Tx.{Tx}

-- the candidates of an actor
abbrev pub part_of : List Tx → ℕ → ℕ → List Tx
part_of candidates n k =
    slice_range candidates (part_begin (length candidates) n k) (part_begin (length candidates) n (k + 1))

-- ---- no view has a claim

abbrev NoClaims : List View → Type 0
NoClaims views = (j : ℕ) → (get_or views j spent).claims ≡ []

none_set : (views : List View) (k : ℕ) (view : View) → NoClaims views → view.claims ≡ [] → k < length views →
    NoClaims (slice_set views k view)
none_set views k view none bare within j = elim (cases_eq j k) [
  | inl e ↦
      subst (λ (i : ℕ). (get_or (slice_set views k view) i spent).claims ≡ []) (sym e)
      (ap (λ (v : View). v.claims) (get_or-set_same views k view spent within) ∙ bare)
  | inr ne ↦ ap (λ (v : View). v.claims) (get_or-set_other views k j view spent ne) ∙ none j
]

none_more : (views : List View) (view : View) → NoClaims views → view.claims ≡ [] → NoClaims (views ++ view ∷ [])
none_more views view none bare j = elim (cases_lt j (length views)) [
  | inl lt ↦ ap (λ (v : View). v.claims) (get_or_append_left views (view ∷ []) spent j lt) ∙ none j
  | inr past ↦ elim (cases_eq j (length views)) [
    | inl e ↦ ap (λ (v : View). v.claims) (get_or_at views view [] spent j (sym e)) ∙ bare
    | inr ne ↦
        ap (λ (v : View). v.claims)
        (get_or_past (views ++ view ∷ []) j spent (let long = length_push views view in omega (arith, long, past, ne)))
  ]
]

none_first : (count : ℕ) → NoClaims (opened 0 count ∷ [])
none_first count zero = refl
none_first count (suc j) = refl

-- ---- the splits

module _ (purses bits : List ℕ) (count n : ℕ) (some : 1 ≤ n) (enough : 1 < n → n ≤ count) where
  splits_bare : (k : ℕ) → k < n → NoClaims (after_splits count n k (begun purses bits count)).views
  splits_bare zero below = none_first count
  splits_bare (suc k) below =
      let state = after_splits count n k (begun purses bits count) in
      let at = part_begin count n (k + 1) in
      let view = view_of state k in
      let none = splits_bare k (omega (arith, below)) in
      let made = (splits_fit purses bits count n some enough k (omega (arith, below))).made in
      none_more (slice_set state.views k (left_part view at)) (right_part view at)
      (none_set state.views k (left_part view at) none (none k) (omega (arith, made))) refl

  splits_rule : (k : ℕ) → k < n → n ≤ 8 → Rule (after_splits count n k (begun purses bits count))
  splits_rule zero below few = begun_keeps purses bits count
  splits_rule (suc k) below few =
      let state = after_splits count n k (begun purses bits count) in
      split_keeps (part_begin count n (k + 1)) state k (splits_rule k (omega (arith, below)) few)
      (split_allowed purses bits count n some enough k state (omega (arith, below)) few refl)

splits_open : (plan : Plan) (count n k : ℕ) (state : State) → OpensAs plan state →
    OpensAs plan (after_splits count n k state)
splits_open plan count n zero state opens = opens
splits_open plan count n (suc k) state opens =
    let before = splits_open plan count n k state opens in record { purses = before.purses; bits = before.bits }

-- ---- the actors

starts_keep : (s : Setting) (n k : ℕ) (purses bits : List ℕ) (claims : List Claim) → claims ≡ [] →
    ActorKeeps s.parts s.plan purses bits claims (part_of s.candidates n k) (starting s.candidates n k)
starts_keep s n k purses bits claims none = record {
  decided = [];
  whole = refl;
  closes = tt;
  has = none ∙ sym (number_pending s.parts s.plan (part_of s.candidates n k));
  first = number_first s.parts s.plan (part_of s.candidates n k);
}

pub opening_holds : (s : Setting) (n : ℕ) → 1 ≤ n → n ≤ 8 → n ≤ max 1 (length s.candidates) →
    RunHolds s (part_of s.candidates n) (opening_run s.parts s.plan s.candidates n)
opening_holds s n some few enough =
    let count = length s.candidates in
    let purses = words_of s.plan.purses 0 in
    let bits = words_of s.plan.bits 0 in
    let state = after_splits count n (n - 1) (begun purses bits count) in
    let hands = all_starting s.candidates n in
    let most : 1 < n → n ≤ count = λ more. omega (arith, more, enough) in
    let last : n - 1 < n = omega (arith, some) in
    let made = (splits_fit purses bits count n some most (n - 1) last).made in
    let many = how_many s.candidates n in
    record {
      rule = splits_rule purses bits count n some most (n - 1) last few;
      opens = splits_open s.plan count n (n - 1) (begun purses bits count) (record { purses = refl; bits = refl });
      many = omega (arith, made, many, some);
      fits = opening_fits s n state hands some enough refl refl;
      keeps = λ k lt.
          subst (λ (one : Actor). ActorKeeps s.parts s.plan state.purses state.bits (view_of state k).claims
          (part_of s.candidates n k) one)
          (sym (starting_at s.candidates n k (omega (arith, lt, many))))
          (starts_keep s n k state.purses state.bits (view_of state k).claims
          (splits_bare purses bits count n some most (n - 1) last k));
    }
