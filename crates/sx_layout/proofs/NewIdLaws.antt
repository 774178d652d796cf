-- The new ids are those that candidates create, and each is found at its place.
use Rattle.std.proofs.Common.{◌≡◌, ℕ, zero, suc, ◌<◌, true, false, ◌==◌, List, [], ◌∷◌}
use Rattle.std.proofs.Common.{length}
use Rattle.std.proofs.Common.{get_or, Some, inl, inr, refl, sym, ap, ◌∙◌, arith}
use Rattle.std.specs.Prelude.{slice_get, Contains}
use Rattle.std.proofs.lemmas.Bool.{eqb-true, or_cases, false_from_ne_true}
use Rattle.std.proofs.lemmas.List.{get_or_default}
use Rattle.std.proofs.lemmas.Option.{slice_get_within, get_or_from_slice_get}
use Rattle.sx_layout.specs.NewIds.{new_ids}
use Rattle.sx_layout.specs.PlanLaws.{NewIdsAreCreated, NewIdsAreFound, OtherIdsAreNot}
use Rattle.sx_layout.proofs.RisingNumbers.{Above, Rising, has, has_at, has_each_once, place_is, rising_each_once}
use Rattle.sx_ledger.specs.Body.{created}

-- what is there stands somewhere
record Stands (xs : List ℕ) (x : ℕ) : Type 0 where
  place : ℕ
  at : slice_get xs place ≡ Some x

stands : (xs : List ℕ) (x : ℕ) → has x xs ≡ true → Stands xs x
stands [] x there = absurd cc
stands (y ∷ ys) x there =
    elim (or_cases (y == x) (has x ys) there) [
      | inl first ↦ record { place = zero; at = ap (λ (n : ℕ). Some n) (eqb-true y x first) }
      | inr later ↦ let rest = stands ys x later in record { place = suc rest.place; at = rest.at }
    ]

there_at : (xs : List ℕ) (place x : ℕ) → slice_get xs place ≡ Some x → has x xs ≡ true
there_at xs place x at = has_at xs place x (slice_get_within xs place x at) (get_or_from_slice_get xs place x 0 at)

there_from : (xs : List ℕ) (x : ℕ) → Contains xs x → has x xs ≡ true
there_from xs x holds = has_at xs holds.0 x holds.1 (get_or_default xs holds.0 0 x holds.1 ∙ holds.2)

contains_from : (xs : List ℕ) (x : ℕ) → has x xs ≡ true → Contains xs x
contains_from xs x there =
    let found = stands xs x there in
    (found.place, slice_get_within xs found.place x found.at, get_or_from_slice_get xs found.place x x found.at)

-- numbers that rise, by places
above_at : (x : ℕ) (ys : List ℕ) → Above x ys → Rising ys → (j : ℕ) → j < length ys → x < get_or ys j 0
above_at x [] above rising j lt = absurd (omega arith)
above_at x (y ∷ ys) above rising zero lt = above.0
above_at x (y ∷ ys) above rising (suc j) lt =
    let least = above.0 in
    omega (arith, least, above_at y ys rising.0 rising.1 j (omega arith))

rising_at : (xs : List ℕ) → Rising xs → (i j : ℕ) → i < j → j < length xs → get_or xs i 0 < get_or xs j 0
rising_at [] rising i j lt within = absurd (omega arith)
rising_at (x ∷ xs) rising i zero lt within = absurd (omega arith)
rising_at (x ∷ xs) rising zero (suc j) lt within = above_at x xs rising.0 rising.1 j (omega arith)
rising_at (x ∷ xs) rising (suc i) (suc j) lt within = rising_at xs rising.1 i j (omega arith) (omega arith)

pub new_ids_are_created : NewIdsAreCreated
new_ids_are_created candidates id = (
  (λ holds. let found = stands (new_ids candidates) id (has_each_once id (created candidates)
      ∙ there_from (created candidates) id holds) in
      record { index = found.place; stands = found.at }),
  (λ new. contains_from (created candidates) id (sym (has_each_once id (created candidates))
      ∙ there_at (new_ids candidates) new.index id new.stands)),
)

pub new_ids_are_found : NewIdsAreFound
new_ids_are_found parts candidates shards id index at =
    let names = new_ids candidates in
    let there : has id names ≡ true = there_at names index id at in
    let place = place_is names (rising_at names (rising_each_once (created candidates))) index id
    (slice_get_within names index id at) (get_or_from_slice_get names index id 0 at) in
    rw there (rw place refl)

pub other_ids_are_not : OtherIdsAreNot
other_ids_are_not parts candidates shards id absent =
    let none : has id (new_ids candidates) ≡ false =
    has_each_once id (created candidates)
    ∙ false_from_ne_true (has id (created candidates))
    (λ there. absent (contains_from (created candidates) id there)) in
    rw none refl
