-- Two sorted lists, of which the second has higher accounts, one behind the other.
use Rattle.std.proofs.Common.{◌≡◌, ◌<◌, false, List, [], ◌∷◌, ◌++◌, inl, inr, refl, sym, ◌∙◌, arith}
use Rattle.std.specs.List.{AllByRecursion}
use Rattle.std.specs.List.Sorted.{IsSortedBy}
use Rattle.std.proofs.lemmas.Bool.{le-ltb, ne_eqb}
use Rattle.sx_filter.proofs.InOrder.{before, before_is, number_of}
use Rattle.sx_filter.proofs.Sorted.{Ranked, beside, by_number, far, in_numbers, ranked}
use Rattle.sx_outcome.proofs.Totals.{In}
use Rattle.sx_ledger.specs.Body.{tx_before}
use Rattle.sx_tx.specs.declared.tx.Tx.{Tx}

all_from : (P : Tx → Type 0) (ys : List Tx) → ((y : Tx) → In y ys → P y) → AllByRecursion P ys
all_from P [] each = tt
all_from P (y ∷ ys) each = (each y (inl refl), all_from P ys (λ z is. each z (inr is)))

all_append : (P : Tx → Type 0) (xs ys : List Tx) → AllByRecursion P xs → AllByRecursion P ys
    → AllByRecursion P (xs ++ ys)
all_append P [] ys all more = more
all_append P (x ∷ xs) ys all more = (all.0, all_append P xs ys all.1 more)

ranked_append : (xs ys : List Tx) → Ranked xs → Ranked ys
    → ((x y : Tx) → In x xs → In y ys → before (number_of y) (number_of x) ≡ false) → Ranked (xs ++ ys)
ranked_append [] ys first second across = second
ranked_append (x ∷ xs) ys first second across = (
  all_append (λ z. before (number_of z) (number_of x) ≡ false) xs ys first.0
      (all_from (λ z. before (number_of z) (number_of x) ≡ false) ys (λ y is. across x y (inl refl) is)),
  ranked_append xs ys first.1 second (λ u v is too. across u v (inr is) too),
)

not_before : (x y : Tx) → x.account.0 < y.account.0 → tx_before y x ≡ false
not_before x y less =
    rw (le-ltb y.account.0 x.account.0 (omega (arith, less)))
    (rw (ne_eqb y.account.0 x.account.0 (λ e. absurd (omega (arith, e, less)))) refl)

pub sorted_append : (xs ys : List Tx) → IsSortedBy tx_before xs → IsSortedBy tx_before ys
    → ((x y : Tx) → In x xs → In y ys → x.account.0 < y.account.0) → IsSortedBy tx_before (xs ++ ys)
sorted_append xs ys first second across =
    in_numbers (xs ++ ys) (λ k d low lt. beside (xs ++ ys)
    (ranked_append xs ys (ranked xs (far xs (by_number xs first))) (ranked ys (far ys (by_number ys second)))
    (λ x y is too. sym (before_is y x) ∙ not_before x y (across x y is too))) k d lt)
