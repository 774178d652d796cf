use Rattle.sx_bytes.proofs.Written.{flat_map-taken}
use Rattle.sx_state.specs.Encoding.{account_bytes}
use Rattle.sx_state.proofs.writing.write_accounts.Goals as goal

pub loop-account-preserved : goal.loop-account-preserved
loop-account-preserved c =
    flat_map-taken (account_bytes c.args.version) c.args.accounts.now c.loop-account.account-index
    c.account-item.result c.args.to.now c.loop-account.to c.put_account.new.to c.loop-account-test.true c.account-item.is c.loop-account.invariant
    c.in_ok-put_account.ensures.ok
