-- The outcomes of a gathering have their form.
use Rattle.std.proofs.Common.{◌≡◌, ℕ, suc, ◌≤◌, List, [], ◌∷◌, length, Some, refl, ap, arith}
use Rattle.std.proofs.lemmas.List.Elements.{All-from_recursion, recursion_from_All}
use Rattle.std.specs.List.{AllByRecursion}
use Rattle.std.specs.Prelude.{slice_get}
use Rattle.sx_base.specs.Ranges.{most_amount}
use Rattle.sx_outcome.specs.declared.outcome.Outcome.{Outcome}
use Rattle.sx_outcome.specs.declared.outcome.Outcome.TheVariants as outcome
use Rattle.sx_outcome.specs.Gathering.{Decision, IsGathered, Shows, decisions}
use Rattle.sx_outcome.specs.Outcomes.{AreOutcomes, IsOutcome}
use Rattle.sx_ledger.specs.declared.parts.Parts.{Parts}
use Rattle.sx_ledger.specs.Effects.{Posting, debit_of}
use Rattle.sx_tx.specs.declared.kind.Kind.{Kind}
use Rattle.sx_tx.specs.declared.kind.Kind.TheVariants as kind
use Rattle.sx_tx.specs.declared.tx.Tx.{Tx}
use Rattle.sx_tx.specs.Transactions.{IsKind, IsTx, IsTxList}

-- what is debited is an amount
few_debited : (account : ℕ) (terms : Kind) (posting : Posting) → IsKind terms → debit_of account terms ≡ Some posting
    → posting.units ≤ most_amount
few_debited account (kind.Pay asset to amount) posting is e =
    let same : record { account = account; asset = asset; units = amount } ≡ posting = cc in
    omega (arith, is.2.1, ap (λ (p : Posting). p.units) same)
few_debited account (kind.Create id) posting is e = absurd cc
few_debited account (kind.Offer sell buy limit amount) posting is e =
    let same : record { account = account; asset = sell; units = amount } ≡ posting = cc in
    omega (arith, is.1.1, ap (λ (p : Posting). p.units) same)
few_debited account (kind.Cancel sell buy limit seq) posting is e = absurd cc

module _ (parts : Parts) (list : List Decision) (body : List Tx) where
  one_form : (place : ℕ) (tx : Tx) (one : Outcome) → IsTx tx → Shows parts list body place tx one → IsOutcome one
  one_form place tx outcome.Accepted is shows = tt
  one_form place tx (outcome.Static why) is shows = tt
  one_form place tx outcome.SeqTaken is shows = tt
  one_form place tx outcome.OfferTaken is shows = tt
  one_form place tx outcome.NameTaken is shows = tt
  one_form place tx (outcome.Overdraft seen need) is shows = (
    shows.1.short,
    few_debited tx.account.0 tx.kind
        (record { account = tx.account.0; asset = shows.1.asset; units = need }) is.kind shows.1.debit,
  )

-- a fact of each decision is one of each outcome
each_form : (txs : List Tx) (told : List Outcome) → length told ≡ length txs → AllByRecursion IsTx txs
    → ((place : ℕ) (one : Decision) → slice_get (decisions txs told) place ≡ Some one → IsTx one.tx
    → IsOutcome one.outcome)
    → AllByRecursion IsOutcome told
each_form txs [] long are each = tt
each_form [] (one ∷ told) long are each = absurd (omega (arith, long))
each_form (tx ∷ txs) (one ∷ told) long are each = (
  each 0 (record { tx = tx; outcome = one }) refl are.0,
  each_form txs told (omega (arith, long)) are.1 (λ place other is. each (suc place) other is),
)

pub gathered_form : (parts : Parts) (txs : List Tx) (told : List Outcome) (body : List Tx) → IsTxList txs
    → IsGathered parts txs told body → AreOutcomes told
gathered_form parts txs told body are gathered = record {
  few = omega (arith, gathered.one_each, are.few);
  each = All-from_recursion IsOutcome told (each_form txs told gathered.one_each
      (recursion_from_All IsTx txs are.each)
      (λ place one is tx_is. one_form parts (decisions txs told) body place one.tx one.outcome tx_is
      (gathered.shows place one is)));
}
