use Rattle.std.proofs.Common.{◌≡◌, ◌≢◌, ◌<◌, ◌≤◌, ℕ, length, get_or, Some, None, refl, sym, ap}
use Rattle.std.proofs.Common.{◌∙◌, arith}
use Rattle.std.proofs.Common.{inl, inr, false, true, subst}
use Rattle.std.specs.List.Sorted.{IsStrictlyIncreasing}
use Rattle.std.proofs.lemmas.Bool.{cases_lt}
use Rattle.std.proofs.lemmas.List.Sorted.{searched}
use Rattle.sx_layout.specs.declared.spot.Spot.{Spot}
use Rattle.sx_layout.specs.Plan.{Plan, name_found, name_spot}
use Rattle.sx_layout.proofs.RisingNumbers.{has, has_at, has_none, place_is, rises_to, rises_weakly}
use Rattle.sx_layout.proofs.layout.Layout.name_of.Goals as goal

found_is : (plan : Plan) (id place : ℕ) (spot : Spot × ℕ) → IsStrictlyIncreasing plan.names
    → (place < length plan.names) × (get_or plan.names place 0 ≡ id) → spot ≡ name_spot plan place
    → Some spot ≡ name_found plan id
found_is plan id place spot up found is =
    let there : has id plan.names ≡ true = has_at plan.names place id found.0 found.1 in
    let stands = place_is plan.names (rises_to plan.names up) place id found.0 found.1 in
    rw there (rw stands (ap (λ (s : Spot × ℕ). Some s) is))

none_is : (plan : Plan) (id place : ℕ)
    → (place ≤ length plan.names) × ((k : ℕ) → k < place → get_or plan.names k 0 < id)
    × ((k : ℕ) → place ≤ k → k < length plan.names → id < get_or plan.names k 0)
    → None ≡ name_found plan id
none_is plan id place found =
    let absent : has id plan.names ≡ false = has_none plan.names id
    (λ k lt. elim (cases_lt k place) [
      | inl less ↦ let below : get_or plan.names k 0 < id = found.1 k less in
          let other : get_or plan.names k 0 ≢ id = omega arith in other
      | inr more ↦ let above : id < get_or plan.names k 0 = found.2 k more lt in
          let other : get_or plan.names k 0 ≢ id = omega arith in other
    ]) in
    rw absent refl

pub returns-in-Ok : goal.returns-in-Ok
returns-in-Ok c =
    let names = c.deref.result.now in
    let same : names ≡ c.args.self.now.names = c.deref.ensures.value ∙
    ap (λ (plan : Plan). plan.names) c.self.view_is in
    let up : IsStrictlyIncreasing names =
    subst IsStrictlyIncreasing (sym c.deref.ensures.value) c.self.invariant.in_order in
    let told = searched names c.args.id.0 c.binary_search.result c.binary_search.ensures.position
    (rises_weakly names up) in
    let found = rw c.in-Ok.is at told in
    found_is c.args.self.now c.args.id.0 c.in-Ok.index c.name_at.result (subst IsStrictlyIncreasing same up)
    (rw same at found) c.name_at.ensures

pub returns-in-Err : goal.returns-in-Err
returns-in-Err c =
    let names = c.deref.result.now in
    let same : names ≡ c.args.self.now.names = c.deref.ensures.value ∙
    ap (λ (plan : Plan). plan.names) c.self.view_is in
    let up : IsStrictlyIncreasing names =
    subst IsStrictlyIncreasing (sym c.deref.ensures.value) c.self.invariant.in_order in
    let told = searched names c.args.id.0 c.binary_search.result c.binary_search.ensures.position
    (rises_weakly names up) in
    let found = rw c.in-Err.is at told in
    none_is c.args.self.now c.args.id.0 c.in-Err.field-0 (rw same at found)
