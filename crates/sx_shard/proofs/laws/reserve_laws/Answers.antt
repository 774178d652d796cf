use Rattle.sx_shard.proofs.Trying.{looks_and_takes, last_take_wins, reserves, refuses, tries}
use Rattle.sx_shard.proofs.laws.reserve_laws.Goals as goal

pub returns-clause-looks_and_takes : goal.returns-clause-looks_and_takes
returns-clause-looks_and_takes c = looks_and_takes

pub returns-clause-last_take_wins : goal.returns-clause-last_take_wins
returns-clause-last_take_wins c = last_take_wins

pub returns-clause-reserves : goal.returns-clause-reserves
returns-clause-reserves c = reserves

pub returns-clause-refuses : goal.returns-clause-refuses
returns-clause-refuses c = refuses

pub returns-clause-tries : goal.returns-clause-tries
returns-clause-tries c = tries
