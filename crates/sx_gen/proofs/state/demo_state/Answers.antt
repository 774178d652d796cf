use Rattle.std.proofs.Common.{◌∙◌}
use Rattle.sx_gen.proofs.Market.{made, made_is_ledger}
use Rattle.sx_gen.proofs.state.demo_state.Goals as goal

pub of-requires-2 : goal.of-requires-2
of-requires-2 c = made_is_ledger _ (made _ _ _ _ c.in_ok-prices.ensures c.in_ok-balances.ensures
    c.in_ok-accounts.ensures
    (c.of.ensures ∙ c.new.ensures.items))

pub returns : goal.returns
returns c = c.of-2.ensures ∙ made _ _ _ _ c.in_ok-prices.ensures c.in_ok-balances.ensures c.in_ok-accounts.ensures
    (c.of.ensures ∙ c.new.ensures.items)
