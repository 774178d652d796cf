use Rattle.std.proofs.Common.{refl}
use Rattle.sx_run.proofs.commands.verifying.verdict.Goals as goal

pub returns-clause-concludes : goal.returns-clause-concludes
returns-clause-concludes c = (
  record { claim = _; are = refl; finds = refl },
  record { good = c.verify-good.result; tells = c.verify-good.ensures.exact; written = c.in_ok-proof_line.ensures },
)
