use Rattle.std.proofs.Common.{◌∙◌}
use Rattle.sx_tx.proofs.WindowLaws.{length_is}
use Rattle.sx_tx.proofs.window.bit_length.Goals as goal

pub returns-clause-length : goal.returns-clause-length
returns-clause-length c = c.from.ensures ∙ length_is c.args.map c.ranges.map.fits
