-- The seats of a pass, and what a step at one of them leaves of the others.
use Rattle.std.proofs.Common.{◌≡◌, ◌≢◌, ℕ, zero, suc, ◌<◌, ◌≤◌, List, [], ◌∷◌, length, get_or, set, map, Some, inl}
use Rattle.std.proofs.Common.{inr, refl, sym, ap, subst, ◌∙◌, arith, length-set, get_or-set_same}
use Rattle.std.proofs.Common.{get_or-set_other}
use Rattle.std.specs.Prelude.{slice_get, slice_set}
use Rattle.std.specs.List.{Contains}
use Rattle.std.proofs.lemmas.Bool.{cases_eq}
use Rattle.std.proofs.lemmas.List.{get_or-map, get_or_past, length-map, map-set}
use Rattle.std.proofs.lemmas.Option.{get_or_from_slice_get, same_Some, slice_get_within}
use Rattle.sx_event.specs.declared.marks.Note.{Note}
use Rattle.sx_event.specs.View.{View, spent}
use Rattle.sx_shard.specs.Models.{IsOf, Seated, Shown}
use Rattle.sx_gather.specs.Passes.{AreSeats, HasNoted, view_at}

seen : Seated → View
seen seat = seat.view

-- ---- views

pub view_is : (seats : List Seated) (k : ℕ) (seat : Seated) → slice_get seats k ≡ Some seat
    → view_at seats k ≡ seat.view
view_is seats k seat at =
    get_or-map (λ (s : Seated). s.view) seats k seat spent (slice_get_within seats k seat at)
    ∙ ap (λ (s : Seated). s.view) (get_or_from_slice_get seats k seat seat at)

pub view_past : (seats : List Seated) (k : ℕ) → length seats ≤ k → view_at seats k ≡ spent
view_past seats k past =
    get_or_past (map (λ (s : Seated). s.view) seats) k spent
    (omega (arith, past, length-map seats (λ (s : Seated). s.view)))

pub view_set : (seats : List Seated) (k : ℕ) (seat : Seated) → k < length seats
    → view_at (slice_set seats k seat) k ≡ seat.view
view_set seats k seat within =
    ap (λ (views : List View). get_or views k spent) (map-set (λ (s : Seated). s.view) seats k seat)
    ∙ get_or-set_same (map (λ (s : Seated). s.view) seats) k seat.view spent
    (omega (arith, within, length-map seats (λ (s : Seated). s.view)))

pub view_other : (seats : List Seated) (k other : ℕ) (seat : Seated) → other ≢ k
    → view_at (slice_set seats k seat) other ≡ view_at seats other
view_other seats k other seat apart =
    ap (λ (views : List View). get_or views other spent) (map-set (λ (s : Seated). s.view) seats k seat)
    ∙ get_or-set_other (map (λ (s : Seated). s.view) seats) k other seat.view spent apart

-- ---- a list with one element set

get_same : {X : Type 0} (xs : List X) (k : ℕ) (y : X) → k < length xs → slice_get (set xs k y) k ≡ Some y
get_same [] k y within = absurd (omega arith)
get_same (x ∷ xs) zero y within = refl
get_same (x ∷ xs) (suc k) y within = get_same xs k y (omega arith)

get_other : {X : Type 0} (xs : List X) (k j : ℕ) (y : X) → j ≢ k → slice_get (set xs k y) j ≡ slice_get xs j
get_other [] k j y apart = refl
get_other (x ∷ xs) zero zero y apart = absurd (apart refl)
get_other (x ∷ xs) zero (suc j) y apart = refl
get_other (x ∷ xs) (suc k) zero y apart = refl
get_other (x ∷ xs) (suc k) (suc j) y apart = get_other xs k j y (λ e. apart (ap suc e))

-- the seat at one shard is changed, and is still one of that shard
pub seats_set : (shards : List Shown) (seats : List Seated) (k : ℕ) (shard : Shown) (seat : Seated)
    → AreSeats shards seats → slice_get shards k ≡ Some shard → IsOf shard seat
    → AreSeats shards (slice_set seats k seat)
seats_set shards seats k shard seat are at of = record {
  one_each = length-set seats k seat ∙ are.one_each;
  of = λ j one new there put.
      elim (cases_eq j k) [
        | inl e ↦
            let within : k < length seats = omega (arith, are.one_each, slice_get_within shards k shard at) in
            let is : seat ≡ new =
            same_Some seat new (sym (get_same seats k seat within)
            ∙ ap (slice_get (slice_set seats k seat)) (sym e) ∙ put) in
            let too : shard ≡ one = same_Some shard one (sym at ∙ ap (slice_get shards) (sym e) ∙ there) in
            subst (λ (s : Shown). IsOf s new) too (subst (IsOf shard) is of)
        | inr apart ↦ are.of j one new there (sym (get_other seats k j seat apart) ∙ put)
      ];
}

-- ---- notes

no_note : (note : Note) → Contains [] note → ⊥
no_note note (k, below, is) = absurd (omega arith)

-- a note is at a shard that there is
pub noted_within : (seats : List Seated) (k : ℕ) (note : Note) → HasNoted seats k note → length seats ≤ k → ⊥
noted_within seats k note has past =
    no_note note (subst (λ (view : View). Contains view.notes note) (view_past seats k past) has)

-- ---- a place of a list

pub entry : {X : Type 0} (xs : List X) (k : ℕ) → k < length xs → (x : X) × (slice_get xs k ≡ Some x)
entry [] k within = absurd (omega arith)
entry (x ∷ xs) zero within = (x, refl)
entry (x ∷ xs) (suc k) within = entry xs k (omega arith)
