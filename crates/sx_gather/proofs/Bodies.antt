-- Accepted candidates that are in order are the body.
use Rattle.std.proofs.Common.{◌≡◌, Bool, true, cond, ◌&&◌, List, [], ◌∷◌}
use Rattle.std.proofs.Common.{map, Some, None, refl, sym, ap, subst, ◌∙◌, append-nil}
use Rattle.std.specs.List.Sorted.{IsPermutation, IsSortedBy}
use Rattle.std.proofs.lemmas.List.Sorted.{IsPermutation-sym, IsPermutation-trans, sorted_far}
use Rattle.sx_tally.proofs.SameOrder.{one_list, put_all_moves}
use Rattle.sx_bytes.specs.Grammar.{in_order}
use Rattle.sx_outcome.specs.Gathering.{Decision, accepted, body_of, in_tx_order, put_tx}
use Rattle.sx_outcome.proofs.TxOrder.{before, before_is, before_through, is_before, key, not_itself, same, same_is}
use Rattle.sx_outcome.proofs.TxOrder.{same_self, tx_order}
use Rattle.sx_ledger.proofs.Insertion.{put, put_all}
use Rattle.sx_ledger.specs.Body.{tx_before}
use Rattle.sx_tx.specs.declared.tx.Tx.{Tx}

-- ---- the body

in_order_after : (tx : Tx) (txs : List Tx)
    → in_order before (Some (key tx)) (map key txs) ≡ in_order tx_before (Some tx) txs
in_order_after tx [] = refl
in_order_after tx (next ∷ txs) = ap (λ (b : Bool). tx_before tx next && b) (in_order_after next txs)

in_order_keys : (txs : List Tx) → in_order before None (map key txs) ≡ in_order tx_before None txs
in_order_keys [] = refl
in_order_keys (tx ∷ txs) = ap (λ (b : Bool). true && b) (in_order_after tx txs)

put_is : (new : Tx) (txs : List Tx) → put_tx new txs ≡ put key before new txs
put_is new [] = refl
put_is new (tx ∷ txs) = ap (λ (rest : List Tx). cond (tx_before new tx) (new ∷ tx ∷ txs) (tx ∷ rest)) (put_is new txs)

order_is : (txs : List Tx) → in_tx_order txs ≡ put_all key before txs []
order_is [] = refl
order_is (tx ∷ txs) = ap (put_tx tx) (order_is txs) ∙ put_is tx (put_all key before txs [])

ordered_moves : (txs : List Tx) → IsPermutation txs (in_tx_order txs)
ordered_moves txs =
    subst (IsPermutation txs) (sym (order_is txs))
    (subst (λ (xs : List Tx). IsPermutation xs (put_all key before txs [])) (append-nil txs)
    (put_all_moves key before txs []))

pub body_is : (list : List Decision) (txs : List Tx) → in_order tx_before None (body_of list) ≡ true
    → IsPermutation (accepted list) txs → IsSortedBy tx_before txs → txs ≡ body_of list
body_is list txs ordered moves sorted =
    sym (one_list key before same same_is same_self
    (λ a b c x y. before_is a c (before_through a b c (is_before a b x) (is_before b c y)))
    (λ a x. not_itself a (is_before a a x))
    (body_of list) txs (in_order_keys (body_of list) ∙ ordered)
    (sorted_far tx_before tx_order txs sorted)
    (IsPermutation-trans (body_of list) (accepted list) txs
    (IsPermutation-sym (accepted list) (body_of list) (ordered_moves (accepted list))) moves))
