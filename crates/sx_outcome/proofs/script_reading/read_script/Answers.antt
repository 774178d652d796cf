use Rattle.std.proofs.Common.{arith}
use Rattle.sx_outcome.proofs.ScriptLaws.{found_in, only_in}
use Rattle.sx_outcome.proofs.script_reading.read_script.Goals as goal

pub returns-clause-found : goal.returns-clause-found
returns-clause-found c =
    found_in c.args.payload.now c.read_whole.result (λ i. omega (arith, c.type_inv.payload i)) c.read_whole.ensures

pub returns-clause-only : goal.returns-clause-only
returns-clause-only c = λ script is e. only_in c.args.payload.now c.read_whole.result script c.read_whole.ensures is e
