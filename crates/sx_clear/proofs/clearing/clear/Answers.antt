use Rattle.std.proofs.Common.{subst}
use Rattle.sx_block.specs.declared.header.Block.{Block}
use Rattle.sx_block.specs.Dropping.{DropsExactly}
use Rattle.sx_clear.specs.Searches.{IsCounted}
use Rattle.sx_clear.proofs.clearing.clear.Goals as goal
use Rattle.sx_ledger.specs.declared.parts.Parts.{Parts}

pub clear_in_place-requires-clause-admissible : goal.clear_in_place-requires-clause-admissible
clear_in_place-requires-clause-admissible g c = λ κs out. rw c.in_ok-copy.ensures c.requires.admissible

pub clear_in_place-requires-clause-below_last : goal.clear_in_place-requires-clause-below_last
clear_in_place-requires-clause-below_last g c = λ κs out. rw c.in_ok-copy.ensures c.requires.below_last

pub returns-clause-dropped : goal.returns-clause-dropped
returns-clause-dropped g c =
    subst (λ (p : Parts). DropsExactly p c.in_ok-cleared.cleared.block) c.in_ok-copy.ensures c.in_ok-cleared.ensures.dropped

pub returns-clause-counted : goal.returns-clause-counted
returns-clause-counted g c =
    subst (λ (p : Parts). IsCounted p c.args.steps.now c.clear_in_place.new.steps c.in_ok-cleared.cleared.block)
    c.in_ok-copy.ensures c.in_ok-cleared.ensures.counted
