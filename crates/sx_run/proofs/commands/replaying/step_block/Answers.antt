use Rattle.std.proofs.lemmas.Result.{err_from_is_err_and}
use Rattle.sx_run.proofs.Steps.{bad_block, block_steps}
use Rattle.sx_run.proofs.commands.replaying.step_block.Goals as goal

pub returns-in-Ok : goal.returns-in-Ok
returns-in-Ok g c =
    block_steps c.args.place c.args.found.now c.requires.place c.requires.found c.in-Ok.advanced.head _
    c.in_ok-incoming.incoming.block c.requires.tag c.if-place-ge-MOST_BLOCKS.false c.in_ok-incoming.ensures.encoded
    c.in_ok-incoming.ensures.form c.in-Ok.ensures.valid c.in-Ok.ensures.head c.in-Ok.ensures.after c.end_of.ensures

pub returns-in_err-incoming : goal.returns-in_err-incoming
returns-in_err-incoming g c =
    let p = err_from_is_err_and c.from_residual.result c.from_residual.ensures.1 in
    rw (p.1, p.2) (bad_block c.args.place c.args.found.now c.in_err-incoming.field-0.0 c.requires.tag
    c.if-place-ge-MOST_BLOCKS.false c.in_err-incoming.ensures.exact)
