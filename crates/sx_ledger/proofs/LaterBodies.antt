-- What version 1 admits every version admits.
use Rattle.std.proofs.Common.{ℕ, ◌≤◌, ◌==◌, List, inl, inr, arith}
use Rattle.std.proofs.lemmas.Bool.{cases_Bool}
use Rattle.sx_ledger.specs.declared.parts.Parts.{Parts}
use Rattle.sx_ledger.specs.Body.{holding_of, spendable}
use Rattle.sx_ledger.specs.EffectLaws.{LaterAdmitsMore}
use Rattle.sx_ledger.specs.Effects.{debits}
use Rattle.sx_tx.specs.declared.tx.Tx.{Tx}

-- what is held is to be spent in every version
held_is_spendable : (version : ℕ) (parts : Parts) (txs : List Tx) (account asset : ℕ)
    → holding_of parts.accounts account asset ≤ spendable version parts txs account asset
held_is_spendable version parts txs account asset =
    elim (cases_Bool (version == 1)) [ inl first ↦ rw first (omega arith) | inr later ↦ rw later (omega arith) ]

pub later_admits_more : LaterAdmitsMore
later_admits_more version parts txs body = record {
  ordered = body.ordered;
  passes = body.passes;
  cancels_once = body.cancels_once;
  creates_once = body.creates_once;
  accounts_fit = body.accounts_fit;
  offers_fit = body.offers_fit;
  covered = λ account asset.
      let held : debits txs account asset ≤ holding_of parts.accounts account asset = body.covered account asset in
      omega (arith, held, held_is_spendable version parts txs account asset);
}
