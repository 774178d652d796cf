-- What candidates name, in order, to tell what is named more than once.
use Rattle.std.specs.Prelude.{ℕ, List}
use Rattle.std.specs.declared.cmp.Ordering.{Ordering}
use Rattle.std.specs.List.Sorted.{IsPermutation, IsSorted}
use Rattle.std.specs.Ordering.{nat_cmp}
use Rattle.sx_filter.specs.Cancellations.{cancellations}
use Rattle.sx_filter.specs.contracts.sift.cancellation.CancellationOrd.TheImpl as by_account
use Rattle.sx_filter.specs.declared.sift.cancellation.Cancellation.{Cancellation}
use Rattle.sx_filter.specs.declared.sift.seen.Seen.{Seen}
use Rattle.sx_ledger.specs.Body.{created}
use Rattle.sx_tx.specs.declared.tx.Tx.{Tx}

-- the keys of a list, sorted
pub record IsSeen {K : Type 0} (cmp : K → K → Ordering) (keys : List K) (seen : Seen K) : Type 0 where
  pub moves : IsPermutation keys seen.keys.items
  pub sorted : IsSorted cmp seen.keys.items

-- what candidates cancel
abbrev pub AreOffers : List Tx → Seen Cancellation → Type 0
AreOffers txs seen = IsSeen by_account.ghosts.cmp (cancellations txs) seen

-- what candidates create
abbrev pub AreIds : List Tx → Seen ℕ → Type 0
AreIds txs seen = IsSeen nat_cmp (created txs) seen
