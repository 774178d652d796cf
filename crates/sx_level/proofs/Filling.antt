-- What each pair trades, as a list.
use Rattle.std.proofs.Common.{◌≡◌, ℕ, ◌+◌, ◌*◌, ◌/◌, ◌%◌, ◌^◌, ◌<◌, ◌≤◌, List, [], ◌∷◌, ◌++◌, length, get_or}
use Rattle.std.proofs.Common.{sym, ap, ◌∙◌, inl, inr, arith}
use Rattle.std.specs.List.{All}
use Rattle.std.proofs.lemmas.Bool.{cases_eq}
use Rattle.std.proofs.lemmas.List.{get_or_push, get_or_append_left, length_push}
use Rattle.std.proofs.lemmas.List.Elements.{All-push}
use Rattle.std.proofs.lemmas.Nat.{mul-add-lt, same_from_place, div-add-mod', row-Below}
use Rattle.sx_dual.specs.Tables.{AreBounds, BoundsTable, IsFlow}
use Rattle.sx_net.specs.declared.arc.Arc.{Arc}
use Rattle.sx_level.specs.Shape.{traded, IsShaped}

-- the entries below a place
pub record IsFilled (bounds : BoundsTable) (arcs : List Arc) (items : List ℕ) (place : ℕ) : Type 0 where
  pub count : length items ≡ place
  pub in_range : All (λ x. x ≤ 2 ^ 102) items
  pub entries : (s b : ℕ) → b < bounds.assets → s * bounds.assets + b < place →
      get_or items (s * bounds.assets + b) 0 ≡ traded bounds arcs s b

pub row_in : (n place : ℕ) → place < n * n → place / n < n
row_in n place lt = (row-Below place n n n lt (omega arith)).1

pub place_of : (n s b : ℕ) → b < n → ((s * n + b) / n ≡ s) × ((s * n + b) % n ≡ b)
place_of n s b lt =
    same_from_place ((s * n + b) / n) ((s * n + b) % n) s b n (omega arith) lt (div-add-mod' (s * n + b) n)

pub fill_none : (bounds : BoundsTable) (arcs : List Arc) (items : List ℕ) → items ≡ [] → IsFilled bounds arcs items 0
fill_none bounds arcs items none =
    let empty : length items ≡ 0 = ap (λ xs. length xs) none in
    record {
      count = empty;
      in_range = λ k d within. absurd (omega (arith, empty));
      entries = λ s b lt below. absurd (omega arith);
    }

pub fill_more : (bounds : BoundsTable) (arcs : List Arc) (items : List ℕ) (place x : ℕ) →
    IsFilled bounds arcs items place → x ≡ traded bounds arcs (place / bounds.assets) (place % bounds.assets) →
    x ≤ 2 ^ 102 → IsFilled bounds arcs (items ++ x ∷ []) (place + 1)
fill_more bounds arcs items place x filled is range = record {
  count = omega (arith, length_push items x, filled.count);
  in_range = All-push (λ x. x ≤ 2 ^ 102) items x filled.in_range range;
  entries = λ s b lt below.
      elim (cases_eq (s * bounds.assets + b) place) [
        | inl same ↦
            let at = place_of bounds.assets s b lt in
            get_or_push items x 0 (s * bounds.assets + b) (filled.count ∙ sym same)
            ∙ is
            ∙ ap (λ p. traded bounds arcs (p / bounds.assets) (p % bounds.assets)) (sym same)
            ∙ ap (λ t. traded bounds arcs t ((s * bounds.assets + b) % bounds.assets)) at.0
            ∙ ap (λ t. traded bounds arcs s t) at.1
        | inr other ↦
            get_or_append_left items (x ∷ []) 0 (s * bounds.assets + b) (omega (arith, filled.count))
            ∙ filled.entries s b lt (omega arith)
      ];
}

pub all_filled : (bounds : BoundsTable) (arcs : List Arc) (items : List ℕ) → AreBounds bounds → IsShaped bounds arcs →
    IsFilled bounds arcs items (bounds.assets * bounds.assets) →
    IsFlow (record { assets = bounds.assets; values = items })
all_filled bounds arcs items are shaped filled = record {
  assets = are.assets;
  values = record {
    full = filled.count;
    in_range = filled.in_range;
    diagonal = λ v lt.
        let pair = shaped.pairs v v lt lt in
        let none : traded bounds arcs v v ≡ 0 = omega (arith, pair.room, are.high.diagonal v lt) in
        filled.entries v v lt (mul-add-lt v bounds.assets v bounds.assets lt lt) ∙ none;
  };
}
