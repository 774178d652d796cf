use Rattle.std.proofs.Common.{◌≡◌, List, Ok, sym, subst, ◌∙◌}
use Rattle.sx_outcome.specs.Room.{room_for}
use Rattle.sx_tx.specs.declared.tx.Tx.{Tx}
use Rattle.sx_workers.proofs.Empty.{none_gathered}
use Rattle.sx_workers.proofs.gathering.of_none.Goals as goal

pub returns-clause-gathered : goal.returns-clause-gathered
returns-clause-gathered c =
    let outcomes = c.into_packed-outcomes.ensures ∙ c.in_ok-with_capacity.ensures.outcomes in
    let room = subst (λ (txs : List Tx). room_for c.args.ledger.now txs ≡ Ok tt) (c.items.ensures ∙ c.requires.none)
    (sym c.room.ensures ∙ c.in_ok-room.was) in
    rw (outcomes, c.requires.none) (none_gathered c.args.ledger.now room)
