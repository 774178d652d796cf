-- Debits and credits as sums over transactions.
use Rattle.std.proofs.Common.{◌≡◌, ℕ, ◌+◌, List, ◌++◌, refl, sym, ap₂, ◌∙◌}
use Rattle.std.specs.List.{sum_by}
use Rattle.std.proofs.lemmas.List.Recursion.{is_sum_by}
use Rattle.std.proofs.lemmas.List.Sorted.{sum_by-IsPermutation}
use Rattle.std.proofs.lemmas.List.Sums.{sum_by-append}
use Rattle.sx_ledger.specs.declared.offer.Offer.{Offer}
use Rattle.sx_ledger.specs.EffectLaws.{CreditsAppend, CreditsPermuted, DebitsAppend, DebitsPermuted}
use Rattle.sx_ledger.specs.Effects.{credit, credits, debit, debits, posted}
use Rattle.sx_tx.specs.declared.tx.Tx.{Tx}

pub debits_sum : (account asset : ℕ) (txs : List Tx)
    → debits txs account asset ≡ sum_by (λ tx. posted (debit tx) account asset) txs
debits_sum account asset =
    is_sum_by (λ txs. debits txs account asset) (λ tx. posted (debit tx) account asset) refl (λ _ _. refl)

pub credits_sum : (offers : List Offer) (account asset : ℕ) (txs : List Tx)
    → credits offers txs account asset ≡ sum_by (λ tx. posted (credit offers tx) account asset) txs
credits_sum offers account asset =
    is_sum_by (λ txs. credits offers txs account asset) (λ tx. posted (credit offers tx) account asset) refl
    (λ _ _. refl)

pub debits_append : DebitsAppend
debits_append xs ys account asset =
    debits_sum account asset (xs ++ ys) ∙ sum_by-append (λ tx. posted (debit tx) account asset) xs ys
    ∙ sym (ap₂ ◌+◌ (debits_sum account asset xs) (debits_sum account asset ys))

pub credits_append : CreditsAppend
credits_append offers xs ys account asset =
    credits_sum offers account asset (xs ++ ys) ∙ sum_by-append (λ tx. posted (credit offers tx) account asset) xs ys
    ∙ sym (ap₂ ◌+◌ (credits_sum offers account asset xs) (credits_sum offers account asset ys))

pub debits_permuted : DebitsPermuted
debits_permuted xs ys account asset h =
    debits_sum account asset ys ∙ sum_by-IsPermutation (λ tx. posted (debit tx) account asset) xs ys h
    ∙ sym (debits_sum account asset xs)

pub credits_permuted : CreditsPermuted
credits_permuted offers xs ys account asset h =
    credits_sum offers account asset ys ∙ sum_by-IsPermutation (λ tx. posted (credit offers tx) account asset) xs ys h
    ∙ sym (credits_sum offers account asset xs)
