-- What a split and a join make of the views of passes.
use Rattle.std.specs.Prelude.{◌≡◌, ℕ, ◌<◌, List}
use Rattle.sx_event.specs.Step.{joined, left_part, right_part}
use Rattle.sx_shard.specs.Models.{Seated}
use Rattle.sx_gather.specs.Passes.{view_at}

-- a place is inside the range of each seat
abbrev pub IsInside : ℕ → List Seated → ℕ → Type 0
IsInside shards seats at =
    (shard : ℕ) → shard < shards → ((view_at seats shard).from < at) × (at < (view_at seats shard).end)

-- the older part of each view, which keeps its claims and notes
abbrev pub SplitLeft : ℕ → ℕ → List Seated → List Seated → Type 0
SplitLeft shards at before after =
    (shard : ℕ) → shard < shards → view_at after shard ≡ left_part (view_at before shard) at

-- the newer part of each view, which has none
abbrev pub SplitRight : ℕ → ℕ → List Seated → List Seated → Type 0
SplitRight shards at before new =
    (shard : ℕ) → shard < shards → view_at new shard ≡ right_part (view_at before shard) at

-- the ranges of the seats meet
abbrev pub DoMeet : ℕ → List Seated → List Seated → Type 0
DoMeet shards seats others =
    (shard : ℕ) → shard < shards → (view_at others shard).from ≡ (view_at seats shard).end

-- each view is joined by that of the other seat
abbrev pub AreJoined : List Seated → List Seated → List Seated → Type 0
AreJoined before others after =
    (shard : ℕ) → view_at after shard ≡ joined (view_at before shard) (view_at others shard)
