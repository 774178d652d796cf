use Rattle.std.proofs.Common.{refl, ap, ◌∙◌}
use Rattle.sx_ledger.specs.declared.parts.Parts.{Parts}
use Rattle.sx_meaning.specs.Items.{state_record}
use Rattle.sx_run.proofs.commands.migrating.newest.Goals as goal

pub returns-clause-concludes : goal.returns-clause-concludes
returns-clause-concludes g c = (
  record { parts = c.args.ledger; are = refl; finds = refl },
  c.in_ok-state_in_pieces.ensures.record ∙ ap (λ (p : Parts). state_record p) c.migrate-migrated.ensures,
)
