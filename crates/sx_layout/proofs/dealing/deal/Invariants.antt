use Rattle.std.proofs.Common.{◌≡◌, ℕ, ◌<◌, ◌++◌, drop, get_or, length, map}
use Rattle.std.specs.List.{flat_map}
use Rattle.sx_layout.specs.Dealing.{dealt}
use Rattle.sx_layout.specs.declared.share.Share.{Share}
use Rattle.sx_layout.proofs.DealtLists.{IsDealing}
use Rattle.sx_layout.proofs.dealing.deal.Given as goal
use Rattle.sx_ledger.specs.declared.account.Account.{Account}

abbrev pub invariant-loop-account : goal.invariant-loop-account
invariant-loop-account l = record {
  one_each : length l.shares ≡ length l.fn.shares;
  within : l.shard < length l.fn.shares;
  balances : (k : ℕ) (d : Share) → k < length l.fn.shares
      → IsDealing (flat_map (λ (account : Account). account.balances)) (length l.fn.shares) l.shard k
      (drop l.account-index l.accounts) (get_or l.shares k d).balances.items
      ((get_or l.fn.shares k d).balances.items
      ++ flat_map (λ (account : Account). account.balances) (dealt (length l.fn.shares) k l.accounts));
  used : (k : ℕ) (d : Share) → k < length l.fn.shares
      → IsDealing (map (λ (account : Account). account.window.used)) (length l.fn.shares) l.shard k
      (drop l.account-index l.accounts) (get_or l.shares k d).used.items
      ((get_or l.fn.shares k d).used.items
      ++ map (λ (account : Account). account.window.used) (dealt (length l.fn.shares) k l.accounts));
}
