use Rattle.sx_ledger.proofs.Migrating.{migrated_is_ledger}
use Rattle.sx_ledger.proofs.ledger.Ledger.migrate.Goals as goal

pub of-requires : goal.of-requires
of-requires c = migrated_is_ledger c.into_parts-parts.result c.into_parts-parts.ensures.kept
