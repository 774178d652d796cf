-- Lists of seats that grow at the end, or shrink, one by one, in step with the shards.
use Rattle.std.proofs.Common.{◌≡◌, ◌≢◌, ◌⊎◌, ℕ, zero, suc, ◌+◌, ◌<◌, ◌≤◌, List, [], ◌∷◌, ◌++◌, length, get_or, map}
use Rattle.std.proofs.Common.{Some, inl, inr, refl, sym, ap, ap₂, subst, ◌∙◌, arith, length-append}
use Rattle.std.specs.Prelude.{slice_get}
use Rattle.std.proofs.lemmas.Bool.{cases_eq}
use Rattle.std.proofs.lemmas.List.{get_or_append_left, get_or_push, length-map, map-append}
use Rattle.std.proofs.lemmas.Option.{same_Some, slice_get_within}
use Rattle.sx_event.specs.Step.{joined, left_part, right_part}
use Rattle.sx_event.specs.View.{View, opened, spent}
use Rattle.sx_layout.specs.Plan.{words_of}
use Rattle.sx_layout.specs.Setting.{Setting}
use Rattle.sx_shard.specs.Close.{HasEnded}
use Rattle.sx_shard.specs.Models.{IsOf, Seated, Shown}
use Rattle.sx_gather.specs.Passes.{AreSeats, view_at}
use Rattle.sx_gather.specs.Split.{SplitLeft, SplitRight}
use Rattle.sx_gather.specs.Start.{Starts}

-- ---- one more at the end

get_push : {X : Type 0} (xs : List X) (x y : X) (k : ℕ) → slice_get (xs ++ x ∷ []) k ≡ Some y
    → (slice_get xs k ≡ Some y) ⊎ ((k ≡ length xs) × (x ≡ y))
get_push [] x y zero at = inr (refl, same_Some x y at)
get_push [] x y (suc k) at = absurd cc
get_push (z ∷ xs) x y zero at = inl at
get_push (z ∷ xs) x y (suc k) at = elim (get_push xs x y k at) [
  | inl early ↦ inl early
  | inr late ↦ inr (ap suc late.0, late.1)
]

pub get_early : {X : Type 0} (xs : List X) (x : X) (k : ℕ) → k < length xs
    → slice_get (xs ++ x ∷ []) k ≡ slice_get xs k
get_early [] x k lt = absurd (omega arith)
get_early (z ∷ xs) x zero lt = refl
get_early (z ∷ xs) x (suc k) lt = get_early xs x k (omega arith)

pub get_last : {X : Type 0} (xs : List X) (x : X) → slice_get (xs ++ x ∷ []) (length xs) ≡ Some x
get_last [] x = refl
get_last (z ∷ xs) x = get_last xs x

-- what holds of each place holds with one more
pub more_places : {X : Type 0} (P : ℕ → X → Type 0) (xs : List X) (x : X)
    → ((k : ℕ) (y : X) → slice_get xs k ≡ Some y → P k y) → P (length xs) x
    → (k : ℕ) (y : X) → slice_get (xs ++ x ∷ []) k ≡ Some y → P k y
more_places P xs x all here k y at = elim (get_push xs x y k at) [
  | inl early ↦ all k y early
  | inr late ↦ subst (λ (j : ℕ). P j y) (sym late.0) (subst (P (length xs)) late.1 here)
]

views_of : List Seated → List View
views_of seats = map (λ seat. seat.view) seats

pub view_early : (seats : List Seated) (seat : Seated) (k : ℕ) → k < length seats
    → view_at (seats ++ seat ∷ []) k ≡ view_at seats k
view_early seats seat k lt =
    let f : Seated → View = λ s. s.view in
    ap (λ (views : List View). get_or views k spent) (map-append f seats (seat ∷ []))
    ∙ get_or_append_left (map f seats) (seat.view ∷ []) spent k (omega (arith, lt, length-map seats f))

pub view_last : (seats : List Seated) (seat : Seated) (k : ℕ) → length seats ≡ k
    → view_at (seats ++ seat ∷ []) k ≡ seat.view
view_last seats seat k many =
    let f : Seated → View = λ s. s.view in
    ap (λ (views : List View). get_or views k spent) (map-append f seats (seat ∷ []))
    ∙ get_or_push (map f seats) seat.view spent k (length-map seats f ∙ many)

-- what holds of the first views holds with one more
pub more_views : (P : ℕ → View → Type 0) (many : ℕ) (seats : List Seated) (seat : Seated) → length seats ≡ many
    → ((k : ℕ) → k < many → P k (view_at seats k)) → P many seat.view
    → (k : ℕ) → k < many + 1 → P k (view_at (seats ++ seat ∷ []) k)
more_views P many seats seat is all here k lt = elim (cases_eq k many) [
  | inl e ↦
      subst (λ (j : ℕ). P j (view_at (seats ++ seat ∷ []) j)) (sym e)
      (subst (P many) (sym (view_last seats seat many is)) here)
  | inr apart ↦
      subst (P k) (sym (view_early seats seat k (omega (arith, lt, is)))) (all k (omega arith))
]

-- ---- the start

-- one more shard is started
pub starts_more : (setting : Setting) (many : ℕ) (shards : List Shown) (seats : List Seated) (shard : Shown)
    (seat : Seated) → Starts setting many shards seats → shard.purses ≡ words_of setting.plan.purses many
    → shard.bits ≡ words_of setting.plan.bits many → shard.count ≡ length setting.candidates → IsOf shard seat
    → seat.view ≡ opened 0 (length setting.candidates)
    → Starts setting (many + 1) (shards ++ shard ∷ []) (seats ++ seat ∷ [])
starts_more setting many shards seats shard seat are purses bits count of view = record {
  many_shards = omega (arith, are.many_shards, length-append shards (shard ∷ []));
  many_seats = omega (arith, are.many_seats, length-append seats (seat ∷ []));
  purses =
      more_places (λ (k : ℕ) (s : Shown). s.purses ≡ words_of setting.plan.purses k) shards shard are.purses
      (purses ∙ ap (words_of setting.plan.purses) (sym are.many_shards));
  bits =
      more_places (λ (k : ℕ) (s : Shown). s.bits ≡ words_of setting.plan.bits k) shards shard are.bits
      (bits ∙ ap (words_of setting.plan.bits) (sym are.many_shards));
  count = more_places (λ (k : ℕ) (s : Shown). s.count ≡ length setting.candidates) shards shard are.count count;
  of = of_more shards seats shard seat (are.many_shards ∙ sym are.many_seats) are.of of;
  views =
      more_views (λ (k : ℕ) (v : View). v ≡ opened 0 (length setting.candidates)) many seats seat are.many_seats
      are.views view;
}
  where
    of_more : (shards : List Shown) (seats : List Seated) (shard : Shown) (seat : Seated) → length shards ≡ length seats
        → ((k : ℕ) (s : Shown) (t : Seated) → slice_get shards k ≡ Some s → slice_get seats k ≡ Some t → IsOf s t)
        → IsOf shard seat → (k : ℕ) (s : Shown) (t : Seated) → slice_get (shards ++ shard ∷ []) k ≡ Some s
        → slice_get (seats ++ seat ∷ []) k ≡ Some t → IsOf s t
    of_more shards seats shard seat same all here k s t at there =
        elim (get_push shards shard s k at) [
          | inl early ↦
              let lt = slice_get_within shards k s early in
              all k s t early (sym (get_early seats seat k (omega (arith, lt, same))) ∙ there)
          | inr late ↦
              let last : slice_get (seats ++ seat ∷ []) k ≡ Some seat =
              ap (slice_get (seats ++ seat ∷ [])) (late.0 ∙ same) ∙ get_last seats seat in
              subst (λ (u : Shown). IsOf u t) late.1 (subst (IsOf shard) (same_Some seat t (sym last ∙ there)) here)
        ]

-- ---- a split

-- so many of the seats are split
pub record Splits (shards : List Shown) (first present new : List Seated) (at many : ℕ) : Type 0 where
  pub seats : AreSeats shards present
  pub left : SplitLeft many at first present
  pub rest : (other : ℕ) → many ≤ other → view_at present other ≡ view_at first other
  pub many_new : length new ≡ many
  pub of : (k : ℕ) (shard : Shown) (seat : Seated) → slice_get shards k ≡ Some shard → slice_get new k ≡ Some seat
      → IsOf shard seat
  pub right : SplitRight many at first new

pub splits_none : (shards : List Shown) (seats : List Seated) (at : ℕ) → AreSeats shards seats
    → Splits shards seats seats [] at 0
splits_none shards seats at are = record {
  seats = are;
  left = λ shard lt. absurd (omega arith);
  rest = λ other le. refl;
  many_new = refl;
  of = λ k shard seat there at. absurd cc;
  right = λ shard lt. absurd (omega arith);
}

pub splits_more : (shards : List Shown) (first seats after new : List Seated) (at many : ℕ) (seat : Seated)
    → Splits shards first seats new at many → AreSeats shards after
    → view_at after many ≡ left_part (view_at seats many) at
    → ((other : ℕ) → other ≢ many → view_at after other ≡ view_at seats other)
    → ((shard : Shown) → slice_get shards many ≡ Some shard → IsOf shard seat)
    → seat.view ≡ right_part (view_at seats many) at
    → Splits shards first after (new ++ seat ∷ []) at (many + 1)
splits_more shards first seats after new at many seat splits are left others of right =
    let stays : view_at seats many ≡ view_at first many = splits.rest many (omega arith) in
    record {
      seats = are;
      left = λ shard lt.
          elim (cases_eq shard many) [
            | inl e ↦
                subst (λ (k : ℕ). view_at after k ≡ left_part (view_at first k) at) (sym e)
                (left ∙ ap (λ (v : View). left_part v at) stays)
            | inr apart ↦ others shard apart ∙ splits.left shard (omega arith)
          ];
      rest = λ other le. others other (omega arith) ∙ splits.rest other (omega arith);
      many_new = omega (arith, splits.many_new, length-append new (seat ∷ []));
      of = λ k shard one there put.
          more_places (λ (j : ℕ) (t : Seated). (s : Shown) → slice_get shards j ≡ Some s → IsOf s t) new seat
          (λ j t stands s is. splits.of j s t is stands)
          (λ s is. of s (ap (slice_get shards) (sym splits.many_new) ∙ is)) k one put shard there;
      right =
          more_views (λ (k : ℕ) (v : View). v ≡ right_part (view_at first k) at) many new seat splits.many_new
          splits.right (right ∙ ap (λ (v : View). right_part v at) stays);
    }

-- ---- a join

-- the seats from a shard on are joined
pub record Joins (shards : List Shown) (first others present left : List Seated) : Type 0 where
  pub seats : AreSeats shards present
  pub few : length left ≤ length shards
  pub front : (k : ℕ) → k < length left → slice_get left k ≡ slice_get others k
  pub rest : (k : ℕ) → k < length left → view_at present k ≡ view_at first k
  pub joined : (k : ℕ) → length left ≤ k → view_at present k ≡ joined (view_at first k) (view_at others k)

pub joins_more : (shards : List Shown) (first others seats after before left : List Seated) (seat : Seated)
    → Joins shards first others seats before → before ≡ left ++ seat ∷ [] → AreSeats shards after
    → view_at others (length left) ≡ seat.view
    → view_at after (length left) ≡ joined (view_at seats (length left)) seat.view
    → ((other : ℕ) → other ≢ length left → view_at after other ≡ view_at seats other)
    → Joins shards first others after left
joins_more shards first others seats after before left seat joins is are last here apart_from =
    let many : length before ≡ length left + 1 = ap length is ∙ length-append left (seat ∷ []) in
    record {
      seats = are;
      few = omega (arith, many, joins.few);
      front = λ k lt.
          sym (get_early left seat k lt) ∙ ap (λ (xs : List Seated). slice_get xs k) (sym is)
          ∙ joins.front k (omega (arith, lt, many));
      rest = λ k lt. apart_from k (omega arith) ∙ joins.rest k (omega (arith, lt, many));
      joined = λ k le.
          elim (cases_eq k (length left)) [
            | inl e ↦
                subst (λ (j : ℕ). view_at after j ≡ joined (view_at first j) (view_at others j)) (sym e)
                (here ∙ ap₂ joined (joins.rest (length left) (omega (arith, many))) (sym last))
            | inr apart ↦ apart_from k apart ∙ joins.joined k (omega (arith, le, many))
          ];
    }

-- ---- the end

-- the shards from one on have ended
pub record Finishes (first : List Shown) (places : List Seated) (shards : List Shown) (seats : List Seated) : Type 0
  where
    pub one_each : length seats ≡ length shards
    pub front_shards : (k : ℕ) → k < length shards → slice_get shards k ≡ slice_get first k
    pub front_seats : (k : ℕ) → k < length seats → slice_get seats k ≡ slice_get places k
    pub ended : (k : ℕ) (shard : Shown) → length shards ≤ k → slice_get first k ≡ Some shard
        → HasEnded shard (view_at places k)

pub finishes_more : (first : List Shown) (places : List Seated) (shards left : List Shown) (seats rest : List Seated)
    (shard : Shown) (seat : Seated) → Finishes first places shards seats → shards ≡ left ++ shard ∷ []
    → seats ≡ rest ++ seat ∷ [] → HasEnded shard (view_at places (length left))
    → Finishes first places left rest
finishes_more first places shards left seats rest shard seat are split apart ends =
    let many : length shards ≡ length left + 1 = ap length split ∙ length-append left (shard ∷ []) in
    let few : length seats ≡ length rest + 1 = ap length apart ∙ length-append rest (seat ∷ []) in
    let last : slice_get first (length left) ≡ Some shard =
    sym (are.front_shards (length left) (omega (arith, many)))
    ∙ ap (λ (xs : List Shown). slice_get xs (length left)) split ∙ get_last left shard in
    record {
      one_each = omega (arith, many, few, are.one_each);
      front_shards = λ k lt.
          sym (get_early left shard k lt) ∙ ap (λ (xs : List Shown). slice_get xs k) (sym split)
          ∙ are.front_shards k (omega (arith, lt, many));
      front_seats = λ k lt.
          sym (get_early rest seat k lt) ∙ ap (λ (xs : List Seated). slice_get xs k) (sym apart)
          ∙ are.front_seats k (omega (arith, lt, few));
      ended = λ k one le at.
          elim (cases_eq k (length left)) [
            | inl e ↦
                let same : shard ≡ one =
                same_Some shard one (sym last ∙ ap (slice_get first) (sym e) ∙ at) in
                subst (λ (j : ℕ). HasEnded one (view_at places j)) (sym e)
                (subst (λ (s : Shown). HasEnded s (view_at places (length left))) same ends)
            | inr apart_from ↦ are.ended k one (omega (arith, le, many)) at
          ];
    }

-- the shard and the seat that end next
pub finish_at : (first : List Shown) (places : List Seated) (shards left : List Shown) (seats rest : List Seated)
    (shard : Shown) (seat : Seated) → Finishes first places shards seats → shards ≡ left ++ shard ∷ []
    → seats ≡ rest ++ seat ∷ []
    → (slice_get first (length left) ≡ Some shard) × (slice_get places (length left) ≡ Some seat)
finish_at first places shards left seats rest shard seat are split apart =
    let many : length shards ≡ length left + 1 = ap length split ∙ length-append left (shard ∷ []) in
    let few : length seats ≡ length rest + 1 = ap length apart ∙ length-append rest (seat ∷ []) in
    let same : length left ≡ length rest = omega (arith, many, few, are.one_each) in (
      sym (are.front_shards (length left) (omega (arith, many)))
          ∙ ap (λ (xs : List Shown). slice_get xs (length left)) split ∙ get_last left shard,
      sym (are.front_seats (length left) (omega (arith, few, same)))
          ∙ ap (λ (xs : List Seated). slice_get xs (length left)) apart
          ∙ ap (slice_get (rest ++ seat ∷ [])) same ∙ get_last rest seat,
    )
