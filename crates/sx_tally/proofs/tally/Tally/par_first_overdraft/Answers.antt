use Rattle.std.specs.Prelude.{IfNone}
use Rattle.std.proofs.Common.{ℕ, subst}
use Rattle.sx_tally.specs.Overdraft.{AreCovered}
use Rattle.sx_tally.proofs.Overdrafts.{first_of_all, none_of_all}
use Rattle.sx_tally.proofs.tally.Tally.par_first_overdraft.Goals as goal

pub returns : goal.returns
returns g c = record {
  first = λ txs is. first_of_all c.args.version c.args.ledger.now c.accounts-accounts.ensures.kept txs c.args.self.now is
      c.first_overdraft_by.result c.first_overdraft_by.ensures.first;
  none = λ txs is. none_of_all c.args.version c.args.ledger.now c.accounts-accounts.ensures.kept txs c.args.self.now is
      c.first_overdraft_by.result (subst (λ (n : ℕ). IfNone c.first_overdraft_by.result
      (AreCovered c.args.version c.args.ledger.now c.args.self.now.postings 0 n)) c.accounts-accounts.ensures.number
      c.first_overdraft_by.ensures.none);
}
