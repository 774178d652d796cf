-- Lists that are made place by place.
use Rattle.std.proofs.Common.{◌≡◌, ℕ, zero, suc, ◌+◌, ◌<◌, List, [], ◌∷◌, ◌++◌, length, get_or, inl, inr, refl, sym, ap}
use Rattle.std.proofs.Common.{◌∙◌, arith, add-one}
use Rattle.std.proofs.lemmas.Bool.{cases_lt}
use Rattle.std.proofs.lemmas.List.{get_or_append_left, get_or_push, length-append}
use Rattle.sx_commit.specs.Commitments.{listed}

pub listed_none : {X : Type 0} (f : ℕ → X) → listed f 0 ≡ []
unfolding listed
listed_none f = refl

-- one entry more
pub pushed : {X : Type 0} (f : ℕ → X) (so_far : List X) (i : ℕ) (x : X) → x ≡ f i → so_far ≡ listed f i
    → so_far ++ x ∷ [] ≡ listed f (i + 1)
unfolding listed
pushed f so_far i x is same = rw (same, is, add-one) refl

pub listed_length : {X : Type 0} (f : ℕ → X) (n : ℕ) → length (listed f n) ≡ n
unfolding listed
listed_length f zero = refl
listed_length f (suc n) = length-append (listed f n) (f n ∷ []) ∙ omega (arith, listed_length f n)

pub listed_at : {X : Type 0} (f : ℕ → X) (n i : ℕ) (d : X) → i < n → get_or (listed f n) i d ≡ f i
unfolding listed
listed_at f zero i d lt = absurd (omega arith)
listed_at f (suc n) i d lt =
    elim (cases_lt i n) [
      | inl below ↦
          get_or_append_left (listed f n) (f n ∷ []) d i (omega (arith, listed_length f n))
          ∙ listed_at f n i d below
      | inr above ↦
          let same : i ≡ n = omega arith in
          get_or_push (listed f n) (f n) d i (listed_length f n ∙ sym same) ∙ ap f (sym same)
    ]
