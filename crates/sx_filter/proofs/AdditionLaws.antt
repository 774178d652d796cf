-- What candidates would add: it is no more than they are, and it sums up.
use Rattle.std.proofs.Common.{◌≡◌, ◌+◌, ◌^◌, ◌<◌, ◌≤◌, List, ◌++◌, length, ap, arith}
use Rattle.std.proofs.lemmas.List.{length-append}
use Rattle.std.proofs.lemmas.List.Elements.{filter_map-append}
use Rattle.sx_filter.specs.Additions.{AreAdditions}
use Rattle.sx_outcome.proofs.Counts.{length-filter_map}
use Rattle.sx_outcome.specs.declared.space.Additions.{Additions}
use Rattle.sx_ledger.specs.Body.{created, created_by, made, made_by}
use Rattle.sx_tx.specs.declared.tx.Tx.{Tx}
use Rattle.sx_tx.specs.Transactions.{most_transactions}

module _ (txs : List Tx) (more : Additions) (is : AreAdditions txs more) where
  pub few_accounts : more.accounts ≤ length txs
  few_accounts = omega (arith, is.accounts, length-filter_map (λ (tx : Tx). created_by tx.kind) txs)

  pub few_offers : more.offers ≤ length txs
  few_offers = omega (arith, is.offers, length-filter_map (λ (tx : Tx). made_by tx tx.kind) txs)

-- candidates, and others behind them
module _ (before behind : List Tx) (some others : Additions) (is : AreAdditions before some)
    (are : AreAdditions behind others) where
  pub together : (whole : Additions) → whole.accounts ≡ some.accounts + others.accounts
      → whole.offers ≡ some.offers + others.offers → AreAdditions (before ++ behind) whole
  together whole accounts offers = record {
    accounts = omega (
      arith,
      accounts,
      is.accounts,
      are.accounts,
      ap length (filter_map-append (λ (tx : Tx). created_by tx.kind) before behind),
      length-append (created before) (created behind),
    );
    offers = omega (
      arith,
      offers,
      is.offers,
      are.offers,
      ap length (filter_map-append (λ (tx : Tx). made_by tx tx.kind) before behind),
      length-append (made before) (made behind),
    );
  }

  pub accounts_fit : length before + length behind ≤ most_transactions → some.accounts + others.accounts < 2 ^ 32
  accounts_fit few = omega (arith, few, few_accounts before some is, few_accounts behind others are)

  pub offers_fit : length before + length behind ≤ most_transactions → some.offers + others.offers < 2 ^ 32
  offers_fit few = omega (arith, few, few_offers before some is, few_offers behind others are)
