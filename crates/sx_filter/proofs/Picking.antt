-- The elements that pass a test, as a loop finds them.
use Rattle.std.proofs.Common.{◌≡◌, ℕ, zero, suc, ◌+◌, ◌<◌, Bool, false, List, [], ◌∷◌, length, get_or}
use Rattle.std.proofs.Common.{All, Ok, Some, inl, inr, refl, set, subst, sym, ap, ◌∙◌, arith}
use Rattle.std.specs.Prelude.{slice_get}
use Rattle.std.proofs.lemmas.Bool.{cases_lt}
use Rattle.std.proofs.lemmas.Grind.{get_or-set_at}
use Rattle.std.proofs.lemmas.List.{drop_more, get_or-set_other}
use Rattle.std.proofs.lemmas.List.Filters.{FiltersInPlace, FiltersInPlace-more_no}
use Rattle.std.proofs.lemmas.Option.{slice_get_read}
use Rattle.std.proofs.lemmas.List.Elements.{Contains-get_or}
use Rattle.sx_filter.specs.Kept.{passes, passing}
use Rattle.sx_filter.specs.Verdicts.{IsVerdict}
use Rattle.sx_filter.proofs.Counts.{in_contains, in_filter}
use Rattle.sx_filter.proofs.KeptLaws.{passes_is}
use Rattle.sx_ledger.specs.declared.parts.Parts.{Parts}
use Rattle.sx_ledger.specs.Static.{static_of}
use Rattle.sx_tx.specs.declared.tx.Tx.{Tx}

pub element : {X : Type 0} (xs : List X) (i : ℕ) → i < length xs → (x : X) × (x ≡ get_or xs i x)
element [] i lt = absurd (omega arith)
element (x ∷ xs) zero lt = (x, refl)
element (x ∷ xs) (suc i) lt = element xs i (omega (arith, lt))

module _ {X : Type 0} {p : X → Bool} {xs ys : List X} {k i : ℕ} (is : FiltersInPlace p xs ys k i) where
  pub rest_at : (x : X) → i < length ys → x ≡ get_or ys i x → slice_get xs i ≡ Some x
  rest_at x lt read =
      let inside : i < length xs = omega (arith, lt, is.long) in
      slice_get_read xs (length xs) i x refl inside
      (read ∙ ap (λ (list : List X). get_or list 0 x) (sym (drop_more ys i x lt) ∙ is.rest ∙ drop_more xs i x inside))

  pub left_out : i < length ys → ((x : X) → slice_get xs i ≡ Some x → p x ≡ false) → FiltersInPlace p xs ys k (i + 1)
  left_out lt fails =
      let one = element ys i lt in
      FiltersInPlace-more_no is lt (fails one.0 (rest_at one.0 lt one.1)) one.1

pub all_pass : (parts : Parts) (candidates : List Tx)
    → All (λ tx. static_of parts tx ≡ Ok tt) (passing parts candidates)
all_pass parts candidates k d lt =
    let x = get_or (passing parts candidates) k d in
    passes_is parts x (in_filter (passes parts) x candidates
    (in_contains x (passing parts candidates) (Contains-get_or (passing parts candidates) k d lt))).1

-- one verdict more
pub told_more : {X : Type 0} (test : X → Bool) (xs : List X) (old : List Bool) (place : ℕ) (is : Bool)
    → place < length old → IsVerdict test xs place is
    → ((k : ℕ) (d : Bool) → k < place → IsVerdict test xs k (get_or old k d))
    → (k : ℕ) (d : Bool) → k < place + 1 → IsVerdict test xs k (get_or (set old place is) k d)
told_more test xs old place is inside here before k d lt x at =
    elim (cases_lt k place) [
      | inl less ↦
          get_or-set_other old place k is d (λ e. absurd (omega (arith, e, less))) ∙ before k d less x at
      | inr most ↦
          let same : k ≡ place = omega (arith, lt, most) in
          get_or-set_at old place k is d same inside
          ∙ here x (subst (λ (j : ℕ). slice_get xs j ≡ Some x) same at)
    ]
