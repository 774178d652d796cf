-- No more is kept than there are candidates.
use Rattle.std.proofs.Common.{◌≡◌, suc, ◌≤◌, List, [], ◌∷◌, ◌++◌, length, inl, inr, refl, ap, ◌∙◌, arith}
use Rattle.std.proofs.lemmas.Bool.{cases_Bool}
use Rattle.sx_filter.specs.Kept.{is_kept, kept_behind}
use Rattle.sx_filter.specs.KeptLaws.{KeptIsFew}
use Rattle.sx_outcome.specs.Gathering.{in_tx_order, put_tx}
use Rattle.sx_ledger.specs.declared.parts.Parts.{Parts}
use Rattle.sx_ledger.specs.Body.{tx_before}
use Rattle.sx_tx.specs.declared.tx.Tx.{Tx}

length_put : (new : Tx) (txs : List Tx) → length (put_tx new txs) ≡ suc (length txs)
length_put new [] = refl
length_put new (tx ∷ txs) = elim (cases_Bool (tx_before new tx)) [
  | inl e ↦ rw e refl
  | inr e ↦ rw e (ap suc (length_put new txs))
]

length_ordered : (txs : List Tx) → length (in_tx_order txs) ≡ length txs
length_ordered [] = refl
length_ordered (tx ∷ txs) = length_put tx (in_tx_order txs) ∙ ap suc (length_ordered txs)

few_behind : (parts : Parts) (all before txs : List Tx) → length (kept_behind parts all before txs) ≤ length txs
few_behind parts all before [] = omega arith
few_behind parts all before (tx ∷ txs) =
    let others = few_behind parts all (before ++ tx ∷ []) txs in
    elim (cases_Bool (is_kept parts all (before ++ txs) tx)) [
      | inl e ↦ rw e (omega (arith, others))
      | inr e ↦ rw e (omega (arith, others))
    ]

pub kept_is_few : KeptIsFew
kept_is_few parts candidates =
    let ordered = length_ordered (kept_behind parts candidates [] candidates) in
    omega (arith, ordered, few_behind parts candidates [] candidates)
