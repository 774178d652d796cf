-- A level of the tree as the code keeps it: the first digests, and the one at all places after them.
use Rattle.std.specs.Prelude.{◌≡◌, ℕ, zero, suc, ◌+◌, ◌*◌, ◌<◌, List, length, slice_index_or}
use Rattle.sha2.specs.Sha256.{sha256}
use Rattle.sx_commit.specs.declared.level.Level.{Level}
use Rattle.sx_commit.specs.Commitments.{digest_at, empty_bytes, node_bytes}
use Rattle.sx_ledger.specs.declared.parts.Parts.{Parts}

-- the lowest level that is kept
abbrev pub lowest : ℕ
lowest = 7

-- the digest at a level over places without an account
unfoldable pub nothing_at : ℕ → List ℕ
nothing_at zero = sha256 empty_bytes
nothing_at (suc level) = sha256 (node_bytes (nothing_at level) (nothing_at level))

-- they are the first digests of the lowest level
abbrev pub AreLowest : Parts → List (List ℕ) → Type 0
AreLowest parts digests =
    (place : ℕ) (d : List ℕ) → place < length digests → slice_index_or digests place d ≡ digest_at parts lowest place

abbrev pub level_at : Level → ℕ → List ℕ
level_at level place = slice_index_or level.digests.items place level.empty

-- it is the level k of these accounts
abbrev pub IsLevel : Parts → ℕ → Level → Type 0
IsLevel parts k level = (place : ℕ) → level_at level place ≡ digest_at parts k place

-- the digest over two places of the level below
abbrev pub node_at : Level → ℕ → List ℕ
node_at level place = sha256 (node_bytes (level_at level (2 * place)) (level_at level (2 * place + 1)))

-- each of the digests is the one over two places of the level below
abbrev pub AreNodes : Level → List (List ℕ) → Type 0
AreNodes below digests =
    (place : ℕ) (d : List ℕ) → place < length digests → slice_index_or digests place d ≡ node_at below place

abbrev pub IsAbove : Level → Level → Type 0
IsAbove below level = (place : ℕ) → level_at level place ≡ node_at below place
