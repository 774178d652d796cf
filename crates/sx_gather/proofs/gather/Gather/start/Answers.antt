use Rattle.std.proofs.Common.{sym, ◌∙◌}
use Rattle.sx_gather.proofs.Joining.{started_is}
use Rattle.sx_gather.proofs.gather.Gather.start.Goals as goal

pub returns-clause-pass : goal.returns-clause-pass
returns-clause-pass c =
    let outcomes = c.in_ok-outcomes.outcomes in
    started_is c.args.ledger.now c.args.candidates.now c.args.shards outcomes.spare
    c.in_ok-setting.setting c.in_ok-shards.shards.items c.in_ok-shards.seats.items outcomes.outcomes
    c.in_ok-setting.ensures.setting c.in_ok-setting.ensures.laid_out (sym c.room.ensures ∙ c.in_ok-room.was)
    c.in_ok-shards.ensures c.in_ok-outcomes.ensures.outcomes
