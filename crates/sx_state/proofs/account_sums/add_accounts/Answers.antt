use Rattle.std.proofs.Common.{◌≤◌, length, arith}
use Rattle.sx_state.proofs.RunningTotals.{small_more, sums_more}
use Rattle.sx_state.proofs.account_sums.add_accounts.Goals as goal

pub loop-account-preserved : goal.loop-account-preserved
loop-account-preserved c =
    let new = c.add_balances.new.sums in
    let old = c.loop-account.sums in
    let i = c.loop-account.account-index in
    let account = c.account-item.result in
    let few : length c.items.result.now ≤ length old =
    rw (c.items.ensures, c.account-item.is)
    (omega (
      arith,
      c.requires.few_assets i account c.loop-account-test.true,
      c.requires.assets,
      c.loop-account.auto.sums,
    )) in
    let in_range = c.requires.in_range i account c.loop-account-test.true in
    record {
      sums = λ k lt. sums_more new old c.items.result.now c.add_balances.ensures.as_many few
          c.add_balances.ensures.added c.args.accounts.now i c.args.sums.now account
          c.loop-account-test.true c.account-item.is c.items.ensures k (omega arith)
          (c.loop-account.invariant.sums k lt);
      small = small_more new old c.items.result.now c.add_balances.ensures.as_many few c.add_balances.ensures.added
          i (rw (c.items.ensures, c.account-item.is) in_range) c.loop-account.invariant.small;
    }
