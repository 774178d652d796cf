-- Of a batch, states that have the digests that are named, up to a place.
use Rattle.std.proofs.Common.{◌≡◌, ℕ, ◌+◌, ◌-◌, ◌<◌, ◌≤◌, List, ◌++◌, length, take, get_or, refl, sym, subst, inl, inr, arith}
use Rattle.std.specs.List.{All}
use Rattle.std.proofs.lemmas.Bool.{cases_eq, cases_lt}
use Rattle.std.proofs.lemmas.List.{get_or-append_right, get_or-take, get_or_append_left, length-take, take_all}
use Rattle.sx_follow.specs.Ahead.{IsRight}
use Rattle.sx_follow.specs.declared.ahead.batch.Claim.{Claim}

-- so many of the first
abbrev pub AreRight : ℕ → List Claim → Type 0
AreRight count claims = (k : ℕ) (d : Claim) → k < count → IsRight (get_or claims k d)

pub taken : (count : ℕ) (claims : List Claim) → AreRight count claims → All IsRight (take count claims)
taken count claims each = λ k d lt.
    let size = length-take count claims in
    subst IsRight (sym (get_or-take count claims k d (omega (arith, lt, size)))) (each k d (omega (arith, lt, size)))

pub untaken : (count : ℕ) (claims : List Claim) → count ≤ length claims → All IsRight (take count claims)
    → AreRight count claims
untaken count claims few all k d lt =
    let size = length-take count claims in
    subst IsRight (get_or-take count claims k d lt) (all k d (omega (arith, few, lt, size)))

-- one more
pub one_more : (count : ℕ) (claims : List Claim) → count < length claims → All IsRight (take count claims)
    → ((d : Claim) → IsRight (get_or claims count d)) → All IsRight (take (count + 1) claims)
one_more count claims lt all is = taken (count + 1) claims (λ k d less. elim (cases_eq k count) [
  | inl e ↦ subst (λ (n : ℕ). IsRight (get_or claims n d)) (sym e) (is d)
  | inr other ↦ untaken count claims (omega arith) all k d (omega arith)
])

-- all of one list, and the first of another one behind it
pub both : (front back : List Claim) (one other : ℕ) → one ≡ length front → other ≤ length back
    → All IsRight (take one front) → All IsRight (take other back)
    → All IsRight (take (length front + other) (front ++ back))
both front back one other whole few first second = taken (length front + other) (front ++ back) (λ k d lt.
    elim (cases_lt k (length front)) [
      | inl less ↦
          subst IsRight (sym (get_or_append_left front back d k less))
          (untaken one front (omega (arith, whole)) first k d (omega (arith, whole, less)))
      | inr most ↦
          subst IsRight (sym (get_or-append_right front back (length front) k d refl (omega arith)))
          (untaken other back few second (k - length front) d (omega arith))
    ])

-- all of them
pub all_right : (count : ℕ) (claims : List Claim) → length claims ≤ count → All IsRight (take count claims)
    → All IsRight claims
all_right count claims most all = subst (All IsRight) (take_all count claims most) all
