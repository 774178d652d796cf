use Rattle.std.proofs.Common.{ℕ, None, ◌∙◌, arith}
use Rattle.std.proofs.lemmas.Result.{err_from_is_err_and}
use Rattle.sx_ledger.specs.declared.account.Account.{Account}
use Rattle.sx_state.specs.Decoding.{next_account_at, accounts_at}
use Rattle.sx_state.proofs.EntriesInOrder.{each_goes_on, each_ends, each_done}
use Rattle.sx_state.proofs.account_reading.accounts.Goals as goal

abbrev id_of : Account → ℕ
id_of account = account.id.0

pub returns-in_err-account-clause-exact : goal.returns-in_err-account-clause-exact
returns-in_err-account-clause-exact c =
    let p = err_from_is_err_and c.from_residual-in_err-account.result c.from_residual-in_err-account.ensures.1 in
    rw (p.1, p.2) (each_ends (next_account_at c.args.version c.args.assets)
    id_of c.in_err-account.field-0.0 c.loop.accounts.items c.args.count c.loop.counter c.loop.before c.loop.from
    (accounts_at c.args.version c.args.assets c.args.count None c.args.from.now)
    c.loop-test.true c.in_err-account.ensures.exact c.loop.invariant.decoded)

pub loop-preserved : goal.loop-preserved
loop-preserved c = record {
  decoded = rw c.in_ok-push.ensures.items
      (each_goes_on (next_account_at c.args.version c.args.assets)
      id_of c.loop.accounts.items c.args.count c.loop.counter c.loop.before c.loop.from c.in_ok-account.account
      c.next_account.new.from (accounts_at c.args.version c.args.assets c.args.count None c.args.from.now)
      c.loop-test.true c.in_ok-account.ensures.exact c.loop.invariant.decoded);
  same = c.in_ok-account.ensures.same ∙ c.loop.invariant.same;
  onward = omega (arith, c.in_ok-account.ensures.onward, c.loop.invariant.onward);
}

pub returns-clause-exact : goal.returns-clause-exact
returns-clause-exact c = each_done (next_account_at c.args.version c.args.assets)
    id_of c.loop.accounts.items c.args.count c.loop.counter c.loop.before c.loop.from
    (accounts_at c.args.version c.args.assets c.args.count None c.args.from.now) c.loop-test.false
    c.loop.invariant.decoded
