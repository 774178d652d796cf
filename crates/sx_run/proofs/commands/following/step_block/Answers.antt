use Rattle.std.proofs.Common.{arith}
use Rattle.sx_run.proofs.Taking.{block_steps}
use Rattle.sx_run.proofs.commands.following.step_block.Goals as goal

pub returns : goal.returns
returns g c =
    block_steps c.args.place c.args.found.now c.requires.place c.requires.found c.offer.new.self c.end_of.result
    c.in_ok-decoded.field-0 c.requires.tag
    (omega (arith, c.taken.ensures.number, c.if-taken-ge-MOST_BLOCKS.false)) c.in_ok-decoded.ensures.encoded
    c.in_ok-decoded.ensures.form c.in_ok-offer.ensures.taken c.end_of.ensures
