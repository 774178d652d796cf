use Rattle.std.proofs.Common.{◌≡◌, ℕ, ◌<◌, ◌≤◌, List, get_or, length}
use Rattle.sx_tally.specs.Tally.{IsTally}
use Rattle.sx_tally.proofs.after.accounts.apply_to_known.Given as goal
use Rattle.sx_ledger.specs.declared.account.Account.{Account}
use Rattle.sx_ledger.specs.Body.{IsAdmissibleIn, account_after}
use Rattle.sx_tx.specs.declared.tx.Tx.{Tx}

abbrev pub invariant-loop-place : goal.invariant-loop-place
invariant-loop-place l = record {
  as_many : length l.accounts.items ≡ length l.fn.ledger.accounts;
  done : (txs : List Tx) → IsAdmissibleIn 2 l.fn.ledger txs → IsTally l.fn.ledger txs l.tally → (k : ℕ) (d : Account)
      → k < l.place
      → get_or l.accounts.items k d ≡ account_after l.fn.ledger txs (get_or l.fn.ledger.accounts k d);
  rest : (k : ℕ) (d : Account) → l.place ≤ k → get_or l.accounts.items k d ≡ get_or l.fn.ledger.accounts k d;
}
