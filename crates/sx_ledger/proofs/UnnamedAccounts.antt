-- An account that no transaction names does not change.
use Rattle.std.proofs.Common.{◌≡◌, ℕ, zero, suc, ◌+◌, ◌-◌, false, ◌==◌, List, [], ◌∷◌, All, ap, ap₂, ◌∙◌, refl, arith}
use Rattle.std.proofs.lemmas.Bool.{or_parts}
use Rattle.std.proofs.lemmas.List.Elements.{All-head, All-tail}
use Rattle.sx_ledger.specs.declared.offer.Offer.{Offer}
use Rattle.sx_ledger.specs.Body.{balances_after, used_below, used_numbers, uses}
use Rattle.sx_ledger.specs.Effects.{credit_of, credits, debit_of, debits, posted}
use Rattle.sx_ledger.specs.EffectLaws.{UnnamedStays, names, pays}
use Rattle.sx_tx.specs.declared.kind.Kind.{Kind}
use Rattle.sx_tx.specs.declared.kind.Kind.TheVariants as kind
use Rattle.sx_tx.specs.declared.tx.Tx.{Tx}
use Rattle.sx_tx.specs.Window.{Next, open_numbers}
use Rattle.sx_tx.proofs.UsedNumbers.{none_used}

no_debit : (by account asset : ℕ) (k : Kind) → (by == account) ≡ false → posted (debit_of by k) account asset ≡ 0
no_debit by account asset (kind.Pay paid to amount) other = rw other refl
no_debit by account asset (kind.Create id) other = refl
no_debit by account asset (kind.Offer sell buy limit amount) other = rw other refl
no_debit by account asset (kind.Cancel sell buy limit seq) other = refl

no_credit : (offers : List Offer) (by account asset : ℕ) (k : Kind) → (by == account) ≡ false → pays account k ≡ false
    → posted (credit_of offers by k) account asset ≡ 0
no_credit offers by account asset (kind.Pay paid to amount) other unpaid = rw unpaid refl
no_credit offers by account asset (kind.Create id) other unpaid = refl
no_credit offers by account asset (kind.Offer sell buy limit amount) other unpaid = refl
no_credit offers by account asset (kind.Cancel sell buy limit seq) other unpaid = rw other refl

-- no transaction names the account
abbrev Unnamed : List Tx → ℕ → Type 0
Unnamed txs account = All (λ tx. names account tx ≡ false) txs

no_debits : (account asset : ℕ) (txs : List Tx) → Unnamed txs account → debits txs account asset ≡ 0
no_debits account asset [] unnamed = refl
no_debits account asset (tx ∷ txs) unnamed =
    let here = or_parts (tx.account.0 == account) (pays account tx.kind)
    (All-head (λ tx. names account tx ≡ false) tx txs unnamed) in
    omega (
      arith,
      no_debit tx.account.0 account asset tx.kind here.0,
      no_debits account asset txs (All-tail (λ tx. names account tx ≡ false) tx txs unnamed),
    )

no_credits : (offers : List Offer) (account asset : ℕ) (txs : List Tx) → Unnamed txs account
    → credits offers txs account asset ≡ 0
no_credits offers account asset [] unnamed = refl
no_credits offers account asset (tx ∷ txs) unnamed =
    let here = or_parts (tx.account.0 == account) (pays account tx.kind)
    (All-head (λ tx. names account tx ≡ false) tx txs unnamed) in
    omega (
      arith,
      no_credit offers tx.account.0 account asset tx.kind here.0 here.1,
      no_credits offers account asset txs (All-tail (λ tx. names account tx ≡ false) tx txs unnamed),
    )

no_uses : (account seq : ℕ) (txs : List Tx) → Unnamed txs account → uses txs account seq ≡ false
no_uses account seq [] unnamed = refl
no_uses account seq (tx ∷ txs) unnamed =
    let here = or_parts (tx.account.0 == account) (pays account tx.kind)
    (All-head (λ tx. names account tx ≡ false) tx txs unnamed) in
    rw here.0 (no_uses account seq txs (All-tail (λ tx. names account tx ≡ false) tx txs unnamed))

no_numbers : (account last n : ℕ) (txs : List Tx) → Unnamed txs account → used_below txs account last n ≡ 0
no_numbers account last zero txs unnamed = refl
no_numbers account last (suc n) txs unnamed =
    rw (no_uses account (last + 1 + n) txs unnamed) (omega (arith, no_numbers account last n txs unnamed))

same_balances : (offers : List Offer) (txs : List Tx) (account asset : ℕ) (balances : List ℕ) → Unnamed txs account
    → balances_after offers txs account asset balances ≡ balances
same_balances offers txs account asset [] unnamed = refl
same_balances offers txs account asset (balance ∷ balances) unnamed =
    let here : (balance + credits offers txs account asset) - debits txs account asset ≡ balance =
    omega (arith, no_debits account asset txs unnamed, no_credits offers account asset txs unnamed) in
    ap₂ (λ (b : ℕ) (bs : List ℕ). b ∷ bs) here (same_balances offers txs account (suc asset) balances unnamed)

pub unnamed_stays : UnnamedStays
unnamed_stays parts txs account is unnamed =
    let window : Next parts.version account.window (used_numbers txs account.id.0 account.window.last)
    ≡ account.window =
    ap (Next parts.version account.window) (no_numbers account.id.0 account.window.last open_numbers txs unnamed)
    ∙ none_used parts.version account.window is in
    let balances = same_balances parts.offers txs account.id.0 0 account.balances unnamed in
    rw (window, balances) refl
