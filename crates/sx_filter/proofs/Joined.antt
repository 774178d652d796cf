-- Lists that stand one behind the other, gone over one by one or by halves.
use Rattle.std.proofs.Common.{◌≡◌, ℕ, ◌+◌, ◌<◌, ◌≤◌, List, [], ◌∷◌, ◌++◌, length, get_or, take, sym, ap, ◌∙◌, arith}
use Rattle.std.specs.List.{flat_map}
use Rattle.std.proofs.lemmas.Grind.{flat_map-append}
use Rattle.std.proofs.lemmas.List.{append-nil, take_more}
use Rattle.std.proofs.lemmas.List.Folds.{length-flat_map-take}

abbrev pub all : {X : Type 0} → List (List X) → List X
all lists = flat_map (λ list. list) lists

module _ {X : Type 0} (lists : List (List X)) (i : ℕ) (list : List X) (within : i < length lists)
    (is : list ≡ get_or lists i list) where
  -- one list more
  pub one_more : all (take (i + 1) lists) ≡ all (take i lists) ++ list
  one_more =
      ap all (take_more lists i list within)
      ∙ flat_map-append (λ (l : List X). l) (take i lists) (get_or lists i list ∷ [])
      ∙ ap (λ (l : List X). all (take i lists) ++ l) (append-nil (get_or lists i list) ∙ sym is)

  -- those before it and it are no longer than all
  pub no_longer : length (all (take i lists)) + length list ≤ length (all lists)
  no_longer = omega (arith, length-flat_map-take (λ (l : List X). l) lists i list within, ap length is)

-- the front half and the back half
pub halves : {X : Type 0} (lists front back : List (List X)) → lists ≡ front ++ back → all lists ≡ all front ++ all back
halves {X} lists front back parted = ap all parted ∙ flat_map-append (λ (l : List X). l) front back
