use Rattle.std.proofs.Common.{List, refl, ap, ◌∙◌}
use Rattle.sx_outcome.specs.Room.{room_for}
use Rattle.sx_meaning.specs.Items.{candidates, item_record}
use Rattle.sx_run.proofs.Filterings.{has_room, stopped}
use Rattle.sx_run.proofs.commands.filtering.kept.Goals as goal
use Rattle.sx_tx.specs.declared.tx.Tx.{Tx}

pub returns-in_ok-candidates_in_pieces-in-Ok-clause-concludes : goal.returns-in_ok-candidates_in_pieces-in-Ok-clause-concludes
returns-in_ok-candidates_in_pieces-in-Ok-clause-concludes g c =
    let parts = c.args.ledger in (
      record {
        parts = parts;
        txs = c.args.candidates;
        are = refl;
        finds = has_room (room_for parts c.args.candidates) c.in-Ok.kept c.in-Ok.ensures.no_room;
      },
      c.in_ok-candidates_in_pieces-in-Ok.ensures.record
          ∙ ap (λ (txs : List Tx). item_record (candidates txs)) c.in-Ok.ensures.kept,
    )

pub returns-in-Err-clause-concludes : goal.returns-in-Err-clause-concludes
returns-in-Err-clause-concludes g c =
    stopped c.args.workers c.args.ledger c.args.candidates c.in-Err.fault c.stop_of.result c.in-Err.ensures.fault
    c.stop_of.ensures
