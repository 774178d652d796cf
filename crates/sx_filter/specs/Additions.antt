-- What candidates would add to a ledger.
use Rattle.std.specs.Prelude.{◌≡◌, List, length}
use Rattle.sx_outcome.specs.declared.space.Additions.{Additions}
use Rattle.sx_ledger.specs.Body.{created, made}
use Rattle.sx_tx.specs.declared.tx.Tx.{Tx}

-- they create so many accounts, and make so many offers
pub record AreAdditions (txs : List Tx) (more : Additions) : Type 0 where
  pub accounts : more.accounts ≡ length (created txs)
  pub offers : more.offers ≡ length (made txs)
