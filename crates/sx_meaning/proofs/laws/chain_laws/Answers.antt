use Rattle.sx_meaning.proofs.Chains.{chain_conserves, chain_keeps_ledger, replays_chains}
use Rattle.sx_meaning.proofs.Following.{follows_replays}
use Rattle.sx_meaning.proofs.Seals.{demos_settle, seals_leave_their_meaning}
use Rattle.sx_meaning.proofs.Settlements.{replays_settle, valid_settles}
use Rattle.sx_meaning.proofs.laws.chain_laws.Goals as goal

pub returns-clause-replays : goal.returns-clause-replays
returns-clause-replays c = replays_chains

pub returns-clause-ledger : goal.returns-clause-ledger
returns-clause-ledger c = chain_keeps_ledger c.block_effect_laws.ensures.ledger

pub returns-clause-conserves : goal.returns-clause-conserves
returns-clause-conserves c = chain_conserves c.block_effect_laws.ensures.ledger c.block_effect_laws.ensures.conserves

pub returns-clause-settles : goal.returns-clause-settles
returns-clause-settles c =
    let laws = c.block_effect_laws.ensures in
    valid_settles laws.ledger laws.within laws.in_full laws.dropped laws.most laws.gives laws.gets laws.one_in_part
    laws.falls laws.keeps_rounding

pub returns-clause-each_settles : goal.returns-clause-each_settles
returns-clause-each_settles c =
    let laws = c.block_effect_laws.ensures in
    replays_settle laws.ledger laws.within laws.in_full laws.dropped laws.most laws.gives laws.gets laws.one_in_part
    laws.falls laws.keeps_rounding

pub returns-clause-seals : goal.returns-clause-seals
returns-clause-seals c =
    let laws = c.block_effect_laws.ensures in
    seals_leave_their_meaning
    (valid_settles laws.ledger laws.within laws.in_full laws.dropped laws.most laws.gives laws.gets laws.one_in_part
    laws.falls laws.keeps_rounding)

pub returns-clause-demos : goal.returns-clause-demos
returns-clause-demos c =
    let laws = c.block_effect_laws.ensures in
    demos_settle
    (valid_settles laws.ledger laws.within laws.in_full laws.dropped laws.most laws.gives laws.gets laws.one_in_part
    laws.falls laws.keeps_rounding)

pub returns-clause-follows : goal.returns-clause-follows
returns-clause-follows c = follows_replays c.block_chain_laws.ensures.chain
