use Rattle.std.proofs.Common.{◌≡◌, ◌≤◌, length, take}
use Rattle.sx_ledger.specs.Body.{created, made}
use Rattle.sx_outcome.proofs.space.additions_of.Given as goal

-- those that were looked at
abbrev pub invariant-loop-tx : goal.invariant-loop-tx
invariant-loop-tx l = record {
  accounts : l.accounts ≡ length (created (take l.tx-index l.candidates));
  offers : l.offers ≡ length (made (take l.tx-index l.candidates));
  few_accounts : l.accounts ≤ l.tx-index;
  few_offers : l.offers ≤ l.tx-index;
  inside : l.tx-index ≤ length l.candidates;
}
