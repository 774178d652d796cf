use Rattle.std.proofs.Common.{sym}
use Rattle.sx_state.proofs.Lengths.{length-state_bytes}
use Rattle.sx_state.proofs.writing.state_length.Goals as goal

pub returns-clause-exact : goal.returns-clause-exact
returns-clause-exact c =
    rw (
      c.map_bytes.ensures,
      c.version.ensures.version,
      c.assets-assets.ensures.number,
      c.accounts.ensures.number,
      c.offers.ensures.number,
    )
    (sym (length-state_bytes c.args.ledger.now c.accounts.ensures.kept))
