use Rattle.std.proofs.Common.{◌∙◌, sym}
use Rattle.sx_gen.specs.State.{account_at}
use Rattle.sx_gen.proofs.Words.{listed_none, pushed}
use Rattle.sx_gen.proofs.state.accounts.Goals as goal

pub loop-i-init : goal.loop-i-init
loop-i-init c = c.in_ok-accounts.ensures.items ∙ sym (listed_none account_at)

pub loop-i-preserved : goal.loop-i-preserved
loop-i-preserved c =
    c.in_ok-push.ensures.items ∙ pushed account_at c.loop-i.accounts.items c.loop-i.i c.in_ok-account.field-0
    c.in_ok-account.ensures c.loop-i.invariant
