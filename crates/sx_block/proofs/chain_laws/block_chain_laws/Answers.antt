use Rattle.sx_block.proofs.Chains.{chain_grows, one_chain, part_goes_as_far}
use Rattle.sx_block.proofs.Existence.{every_list_has_chain, valid_are_chain}
use Rattle.sx_block.proofs.chain_laws.block_chain_laws.Goals as goal

pub returns-clause-some : goal.returns-clause-some
returns-clause-some c =
    let laws = c.check_laws.ensures in
    every_list_has_chain laws.judged laws.valid_is_not_refused c.block_effect_laws.ensures.ledger

pub returns-clause-one : goal.returns-clause-one
returns-clause-one c = one_chain

pub returns-clause-grows : goal.returns-clause-grows
returns-clause-grows c = chain_grows

pub returns-clause-part : goal.returns-clause-part
returns-clause-part c = part_goes_as_far

pub returns-clause-chain : goal.returns-clause-chain
returns-clause-chain c = valid_are_chain
