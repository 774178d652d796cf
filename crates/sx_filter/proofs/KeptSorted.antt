-- What is kept, where all that pass are sorted.
use Rattle.std.proofs.Common.{◌≡◌, suc, Bool, true, List, [], ◌∷◌, All, Ok, refl, sym, ap, subst}
use Rattle.std.proofs.Common.{◌∙◌, arith}
use Rattle.std.specs.Prelude.{is_ok}
use Rattle.std.specs.List.{filter}
use Rattle.std.specs.List.Sorted.{IsPermutation, IsSortedBy}
use Rattle.std.proofs.lemmas.List.Sorted.{All-permutation, IsPermutation-refl}
use Rattle.sx_filter.specs.Alone.{is_alone}
use Rattle.sx_filter.specs.Kept.{kept_of, passes, passing}
use Rattle.sx_filter.proofs.InOrder.{Once, sorted_is}
use Rattle.sx_filter.proofs.KeptAlone.{alone, kept_is}
use Rattle.sx_filter.proofs.KeptLaws.{kept_permuted, once, refused_are_nothing}
use Rattle.sx_filter.proofs.Picking.{all_pass}
use Rattle.sx_filter.proofs.Sorted.{by_number, left_sorted}
use Rattle.sx_outcome.specs.Gathering.{in_tx_order}
use Rattle.sx_ledger.specs.declared.parts.Parts.{Parts}
use Rattle.sx_ledger.specs.Body.{tx_before}
use Rattle.sx_ledger.specs.Static.{static_of}
use Rattle.sx_tx.specs.declared.tx.Tx.{Tx}

all_left : (p : Tx → Bool) (xs : List Tx) → All (λ x. p x ≡ true) xs → filter p xs ≡ xs
all_left p [] all = refl
all_left p (x ∷ xs) all =
    let rest = all_left p xs (λ k d lt. all (suc k) d (omega (arith, lt))) in
    rw (all 0 x (omega arith)) (ap (λ (list : List Tx). x ∷ list) rest)

module _ (parts : Parts) (candidates txs : List Tx) (moves : IsPermutation (passing parts candidates) txs) where
  pub moved_pass : All (λ tx. static_of parts tx ≡ Ok tt) txs
  moved_pass =
      All-permutation (λ tx. static_of parts tx ≡ Ok tt) (passing parts candidates) txs moves
      (all_pass parts candidates)

  all_passing : passing parts txs ≡ txs
  all_passing = all_left (passes parts) txs (λ k d lt. ap is_ok (moved_pass k d lt))

  abbrev left : List Tx
  left = filter (is_alone parts txs) txs

  alone_left : alone parts txs ≡ left
  alone_left = ap (λ (list : List Tx). filter (is_alone parts list) list) all_passing

  pub kept_sorted : IsSortedBy tx_before txs → left ≡ kept_of parts candidates
  kept_sorted sorted =
      sorted_is left left (subst Once alone_left (once parts txs)) (IsPermutation-refl left)
      (left_sorted (is_alone parts txs) txs (by_number txs sorted))
      ∙ ap in_tx_order (sym alone_left)
      ∙ sym (kept_is parts txs)
      ∙ kept_permuted parts (passing parts candidates) txs moves
      ∙ refused_are_nothing parts candidates
