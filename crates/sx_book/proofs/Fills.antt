-- What fills leave of offers.
use Rattle.std.proofs.Common.{◌≡◌, ℕ, zero, suc, ◌+◌, ◌-◌, ◌<◌, ◌≤◌, Bool, true, false, List, [], ◌∷◌, ◌++◌, length}
use Rattle.std.proofs.Common.{map, take, drop, Option, Some, None, nat_lt, slice_get, inl, inr, refl, sym, ap, subst}
use Rattle.std.proofs.Common.{◌∙◌, arith}
use Rattle.std.specs.Prelude.{◌==◌, if◌then◌else◌}
use Rattle.std.specs.List.{AllByRecursion, sum_by}
use Rattle.std.proofs.lemmas.Bool.{cases_Bool}
use Rattle.std.proofs.lemmas.Bool.Decides.{nat_tests}
use Rattle.std.proofs.lemmas.Grind.{common_steps}
use Rattle.std.proofs.lemmas.List.Sums.{sum_by-cons}
use Rattle.sx_book.specs.Books.{given_at, left_from, less}
use Rattle.sx_book.specs.Store.{left_node, offers_in}
use Rattle.sx_book.proofs.Lists.{all_append, all_weaker}
use Rattle.sx_ledger.specs.declared.fill.Fill.{Fill}
use Rattle.sx_ledger.specs.declared.offer.Offer.{Offer}

-- ---- what fills give at a place

abbrev units_at : ℕ → Fill → ℕ
units_at place fill = if fill.place == place then fill.gives else 0

units_other : (place : ℕ) (fill : Fill) → (fill.place ≡ place → ⊥) → units_at place fill ≡ 0
units_other place fill other = grind (arith, common_steps, nat_tests)

units_here : (place : ℕ) (fill : Fill) → fill.place ≡ place → units_at place fill ≡ fill.gives
units_here place fill same = grind (arith, common_steps, nat_tests)

given_none : (fills : List Fill) (place : ℕ) → AllByRecursion (λ fill. place < fill.place) fills → given_at fills place
    ≡ 0
given_none [] place all = refl
given_none (fill ∷ fills) place all =
    let first = units_other place fill (λ e. absurd (omega (arith, all.0))) in
    let rest = given_none fills place all.1 in
    omega (arith, sum_by-cons (units_at place) fill fills)

given_here : (fill : Fill) (fills : List Fill) (place : ℕ) → fill.place ≡ place
    → AllByRecursion (λ other. place < other.place) fills → given_at (fill ∷ fills) place ≡ fill.gives
given_here fill fills place same all =
    let first = units_here place fill same in
    let rest = given_none fills place all in
    omega (arith, sum_by-cons (units_at place) fill fills)

given_other : (fill : Fill) (fills : List Fill) (place : ℕ) → fill.place < place
    → given_at (fill ∷ fills) place ≡ given_at fills place
given_other fill fills place lt =
    let first = units_other place fill (λ e. absurd (omega arith)) in
    omega (arith, sum_by-cons (units_at place) fill fills)

-- ---- what is left

abbrev pub left_one : Offer → ℕ → List Offer
left_one offer units = if nat_lt units offer.amount then less offer units ∷ [] else []

pub left_of_node : (x : ℕ × Offer) (units : ℕ) → offers_in (left_node x units) ≡ left_one x.1 units
left_of_node x units = elim (cases_Bool (nat_lt units x.1.amount)) [ inl lt ↦ rw lt refl | inr ge ↦ rw ge refl ]

left_cons : (fills : List Fill) (place : ℕ) (offer : Offer) (offers : List Offer)
    → left_from fills place (offer ∷ offers)
    ≡ left_one offer (given_at fills place) ++ left_from fills (suc place) offers
left_cons fills place offer offers =
    elim (cases_Bool (nat_lt (given_at fills place) offer.amount)) [ inl lt ↦ rw lt refl | inr ge ↦ rw ge refl ]

left_zero : (offer : Offer) → 1 ≤ offer.amount → left_one offer 0 ≡ offer ∷ []
left_zero offer some =
    let positive : nat_lt 0 offer.amount ≡ true = grind (arith, common_steps, nat_tests) in
    let whole : offer.amount - 0 ≡ offer.amount = omega arith in
    let same : less offer 0 ≡ offer = ap (λ (a : ℕ). record {
      sell = offer.sell;
      buy = offer.buy;
      limit = offer.limit;
      account = offer.account;
      seq = offer.seq;
      amount = a;
    }) whole in
    rw positive (ap (λ o. o ∷ []) same)

-- without fills all stays
pub left_nil : (place : ℕ) (offers : List Offer) → AllByRecursion (λ offer. 1 ≤ offer.amount) offers
    → left_from [] place offers ≡ offers
left_nil place [] all = refl
left_nil place (offer ∷ offers) all =
    left_cons [] place offer offers ∙ ap (λ os. os ++ left_from [] (suc place) offers) (left_zero offer all.0)
    ∙ ap (λ os. offer ∷ os) (left_nil (suc place) offers all.1)

-- a fill says nothing of later places
left_past : (fill : Fill) (fills : List Fill) (place : ℕ) (offers : List Offer) → fill.place < place
    → left_from (fill ∷ fills) place offers ≡ left_from fills place offers
left_past fill fills place [] lt = refl
left_past fill fills place (offer ∷ offers) lt =
    left_cons (fill ∷ fills) place offer offers
    ∙ ap (λ units. left_one offer units ++ left_from (fill ∷ fills) (suc place) offers)
    (given_other fill fills place lt)
    ∙ ap (λ os. left_one offer (given_at fills place) ++ os) (left_past fill fills (suc place) offers (omega arith))
    ∙ sym (left_cons fills place offer offers)

-- the first fill, at its place
pub left_at : (fill : Fill) (fills : List Fill) (place k : ℕ) (offers : List Offer) (offer : Offer)
    → fill.place ≡ place + k → AllByRecursion (λ other. fill.place < other.place) fills
    → AllByRecursion (λ o. 1 ≤ o.amount) offers → slice_get offers k ≡ Some offer
    → left_from (fill ∷ fills) place offers
    ≡ take k offers ++ (left_one offer fill.gives ++ left_from fills (suc fill.place) (drop (suc k) offers))
left_at fill fills place k [] offer at later amounts here = absurd cc
left_at fill fills place zero (o ∷ offers) offer at later amounts here =
    let same : o ≡ offer = cc in
    let there : place ≡ fill.place = omega arith in
    left_cons (fill ∷ fills) place o offers
    ∙ ap (λ units. left_one o units ++ left_from (fill ∷ fills) (suc place) offers)
    (given_here fill fills place (sym there) (subst (λ p. AllByRecursion (λ other. p < other.place) fills) (sym there)
    later))
    ∙ ap (λ os. left_one o fill.gives ++ os) (left_past fill fills (suc place) offers (omega arith))
    ∙ ap (λ p. left_one o fill.gives ++ left_from fills (suc p) offers) there
    ∙ ap (λ z. left_one z fill.gives ++ left_from fills (suc fill.place) offers) same
left_at fill fills place (suc k) (o ∷ offers) offer at later amounts here =
    let before : place < fill.place = omega arith in
    let none = given_none (fill ∷ fills) place (
      before,
      all_weaker (λ other. fill.place < other.place)
          (λ other. place < other.place)
          (λ other lt. omega arith) fills later,
    ) in
    left_cons (fill ∷ fills) place o offers
    ∙ ap (λ units. left_one o units ++ left_from (fill ∷ fills) (suc place) offers) none
    ∙ ap (λ os. os ++ left_from (fill ∷ fills) (suc place) offers) (left_zero o amounts.0)
    ∙ ap (λ os. o ∷ os) (left_at fill fills (suc place) k offers offer (omega arith) later amounts.1 here)

-- what holds of an offer whatever its amount holds of what is left
pub all_left : (P : Offer → Type 0) → ((offer : Offer) (units : ℕ) → P offer → P (less offer units)) →
    (fills : List Fill)
    (place : ℕ) (offers : List Offer) → AllByRecursion P offers → AllByRecursion P (left_from fills place offers)
all_left P keeps fills place [] all = tt
all_left P keeps fills place (offer ∷ offers) all =
    elim (cases_Bool (nat_lt (given_at fills place) offer.amount)) [
      | inl lt ↦ rw lt (keeps offer (given_at fills place) all.0, all_left P keeps fills (suc place) offers all.1)
      | inr ge ↦ rw ge (all_left P keeps fills (suc place) offers all.1)
    ]
