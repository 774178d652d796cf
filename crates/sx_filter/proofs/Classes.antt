-- The candidates of a class of accounts, as a loop finds them.
use Rattle.std.proofs.Common.{◌≡◌, ℕ, ◌+◌, ◌<◌, List, [], ◌∷◌, ◌++◌, append-nil, get_or, length, take}
use Rattle.std.proofs.Common.{refl, sym, ap, ◌∙◌}
use Rattle.std.specs.List.{filter}
use Rattle.std.proofs.lemmas.Bool.{eq-eqb, ne_eqb}
use Rattle.std.proofs.lemmas.List.{take_more}
use Rattle.std.proofs.lemmas.List.Elements.{filter-append}
use Rattle.sx_filter.specs.Ranges.{is_at}
use Rattle.sx_tx.specs.declared.tx.Tx.{Tx}

module _ (class_of : ℕ → ℕ) (class : ℕ) (list : List Tx) (i : ℕ) (tx : Tx) (within : i < length list)
    (is : tx ≡ get_or list i tx) where
  abbrev those : List Tx → List Tx
  those txs = filter (is_at class_of class) txs

  one_more : those (take (i + 1) list) ≡ those (take i list) ++ those (tx ∷ [])
  one_more =
      ap those (take_more list i tx within ∙ ap (λ (t : Tx). take i list ++ t ∷ []) (sym is))
      ∙ filter-append (is_at class_of class) (take i list) (tx ∷ [])

  -- one candidate more, of the class
  pub one_in : class_of tx.account.0 ≡ class → those (take (i + 1) list) ≡ those (take i list) ++ tx ∷ []
  one_in same =
      let at : those (tx ∷ []) ≡ tx ∷ [] = rw (eq-eqb (class_of tx.account.0) class same) refl in
      one_more ∙ ap (λ (t : List Tx). those (take i list) ++ t) at

  -- one of another class
  pub one_out : (class_of tx.account.0 ≡ class → ⊥) → those (take (i + 1) list) ≡ those (take i list)
  one_out differ =
      let none : those (tx ∷ []) ≡ [] = rw (ne_eqb (class_of tx.account.0) class differ) refl in
      one_more ∙ ap (λ (t : List Tx). those (take i list) ++ t) none ∙ append-nil (those (take i list))
