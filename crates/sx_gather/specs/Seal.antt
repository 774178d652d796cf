-- How the shards of a gathering end, and what is known of the accepted candidates then.
use Rattle.std.specs.Prelude.{◌≡◌, ℕ, List, Some, slice_get}
use Rattle.std.specs.List.Sorted.{IsPermutation, IsSortedBy}
use Rattle.sx_outcome.specs.declared.outcome.Outcome.{Outcome}
use Rattle.sx_outcome.specs.Gathering.{IsGathered}
use Rattle.sx_ledger.specs.declared.parts.Parts.{Parts}
use Rattle.sx_ledger.specs.Body.{tx_before}
use Rattle.sx_shard.specs.Close.{HasEnded}
use Rattle.sx_shard.specs.Models.{Seated, Shown}
use Rattle.sx_tx.specs.declared.tx.Tx.{Tx}
use Rattle.sx_gather.specs.Passes.{view_at}

-- each seat has all candidates
abbrev pub HaveAll : List Shown → List Seated → Type 0
HaveAll shards seats =
    (k : ℕ) (shard : Shown) → slice_get shards k ≡ Some shard
    → ((view_at seats k).from ≡ 0) × ((view_at seats k).end ≡ shard.count)

-- each shard has ended, by the view of its seat
abbrev pub HaveEnded : List Shown → List Seated → Type 0
HaveEnded shards seats =
    (k : ℕ) (shard : Shown) → slice_get shards k ≡ Some shard → HasEnded shard (view_at seats k)

-- with the outcomes these transactions are those of a gathering, once they are in the order of a body
abbrev pub IsBodyOnceSorted : Parts → List Tx → List Outcome → List Tx → Type 0
IsBodyOnceSorted parts candidates outcomes txs =
    (body : List Tx) → IsPermutation txs body → IsSortedBy tx_before body → IsGathered parts candidates outcomes body
