use Rattle.std.proofs.Common.{arith}
use Rattle.sx_state.proofs.DecodedRanges.{assets_known, accounts_by_id, accounts_few}
use Rattle.sx_state.proofs.reading.parts.Goals as goal

pub overflow_cast-assets : goal.overflow_cast-assets
overflow_cast-assets g c = rw c.items.ensures (omega (arith, (assets_known _ _ _ c.in_ok-version.ensures).1))

pub accounts-requires-clause-some : goal.accounts-requires-clause-some
accounts-requires-clause-some g c = rw c.items.ensures (omega (arith, (assets_known _ _ _ c.in_ok-version.ensures).0))

pub accounts-requires-clause-few : goal.accounts-requires-clause-few
accounts-requires-clause-few g c = rw c.items.ensures (omega (arith, (assets_known _ _ _ c.in_ok-version.ensures).1))

pub offer_list-requires-clause-some : goal.offer_list-requires-clause-some
offer_list-requires-clause-some g c = rw c.items.ensures (omega (arith, (assets_known _ _ _ c.in_ok-version.ensures).0))

pub offer_list-requires-clause-few : goal.offer_list-requires-clause-few
offer_list-requires-clause-few g c = rw c.items.ensures (omega (arith, (assets_known _ _ _ c.in_ok-version.ensures).1))

pub offer_list-requires-clause-by_id : goal.offer_list-requires-clause-by_id
offer_list-requires-clause-by_id g c =
    rw c.deref.ensures.value
    (accounts_by_id _ _ c.read_head.new.from c.accounts.new.from c.in_ok-accounts.accounts.items
    c.in_ok-accounts.ensures.exact)

pub offer_list-requires-clause-few_accounts : goal.offer_list-requires-clause-few_accounts
offer_list-requires-clause-few_accounts g c =
    rw c.deref.ensures.value
    (accounts_few _ _ c.read_head.new.from c.accounts.new.from c.in_ok-accounts.accounts.items
    c.in_ok-accounts.ensures.exact)
