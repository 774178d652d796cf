-- A table of values that is filled from its first place on.
use Rattle.std.proofs.Common.{◌≡◌, ℕ, ◌+◌, ◌*◌, ◌/◌, ◌%◌, ◌^◌, ◌<◌, ◌≤◌, List, [], ◌∷◌, ◌++◌, length, get_or}
use Rattle.std.proofs.Common.{sym, ap, ◌∙◌, inl, inr, arith}
use Rattle.std.specs.List.{All}
use Rattle.std.proofs.lemmas.Bool.{cases_eq}
use Rattle.std.proofs.lemmas.List.{get_or_push, get_or_append_left, length_push}
use Rattle.std.proofs.lemmas.List.Elements.{All-push}
use Rattle.std.proofs.lemmas.Nat.{mul-add-lt, same_from_place, div-add-mod'}
use Rattle.sx_dual.specs.Tables.{IsAssetCount, IsFlow}

-- the entries below a place are in range, and 0 where both assets are the same
pub record IsFilled (n : ℕ) (items : List ℕ) (place : ℕ) : Type 0 where
  pub count : length items ≡ place
  pub in_range : All (λ x. x ≤ 2 ^ 102) items
  pub diagonal : (v : ℕ) → v < n → v * n + v < place → get_or items (v * n + v) 0 ≡ 0

pub fill_none : (n : ℕ) (items : List ℕ) → items ≡ [] → IsFilled n items 0
fill_none n items none =
    let empty : length items ≡ 0 = ap (λ xs. length xs) none in
    record {
      count = empty;
      in_range = λ k d within. absurd (omega (arith, empty));
      diagonal = λ v lt below. absurd (omega arith);
    }

pub fill_more : (n : ℕ) (items : List ℕ) (place x : ℕ) → IsFilled n items place → x ≤ 2 ^ 102
    → (place / n ≡ place % n → x ≡ 0) → IsFilled n (items ++ x ∷ []) (place + 1)
fill_more n items place x filled range itself = record {
  count = omega (arith, length_push items x, filled.count);
  in_range = All-push (λ x. x ≤ 2 ^ 102) items x filled.in_range range;
  diagonal = λ v lt below.
      elim (cases_eq (v * n + v) place) [
        | inl same ↦
            let at = same_from_place ((v * n + v) / n) ((v * n + v) % n) v v n (omega arith) lt
            (div-add-mod' (v * n + v) n) in
            get_or_push items x 0 (v * n + v) (filled.count ∙ sym same)
            ∙ itself
            (ap (λ p. p / n) (sym same) ∙ at.0 ∙ sym at.1 ∙ ap (λ p. p % n) same)
        | inr other ↦
            get_or_append_left items (x ∷ []) 0 (v * n + v) (omega (arith, filled.count))
            ∙ filled.diagonal v lt (omega arith)
      ];
}

pub all_filled : (n : ℕ) (items : List ℕ) → IsAssetCount n → IsFilled n items (n * n)
    → IsFlow (record { assets = n; values = items })
all_filled n items count filled = record {
  assets = count;
  values = record {
    full = filled.count;
    in_range = filled.in_range;
    diagonal = λ v lt. filled.diagonal v lt (mul-add-lt v n v n lt lt);
  };
}
