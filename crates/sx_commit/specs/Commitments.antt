-- One digest over all accounts of a ledger, and what shows one account under it.
use Rattle.std.specs.Prelude.{◌≡◌, ℕ, zero, suc, ◌+◌, ◌-◌, ◌*◌, ◌/◌, ◌%◌, ◌^◌, List, [], ◌∷◌, ◌++◌}
use Rattle.std.specs.Prelude.{Option, Some, None, slice_get, slice_index_or, ◌==◌, if◌then◌else◌}
use Rattle.sha2.specs.Sha256.{sha256}
use Rattle.sx_block.specs.declared.proof.Proof.{Proof}
use Rattle.sx_ledger.specs.declared.account.Account.{Account}
use Rattle.sx_ledger.specs.declared.parts.Parts.{Parts}
use Rattle.sx_state.specs.Encoding.{account_bytes}

-- ---- the tree: a leaf for each place at level 0, and the root at level 16

abbrev pub levels : ℕ
levels = 16

abbrev pub most_places : ℕ
most_places = 2 ^ 16

-- the bytes of an account: 0, the version of the ledger, and the account as in the state
abbrev pub leaf_bytes : ℕ → Account → List ℕ
leaf_bytes version account = 0 ∷ version ∷ account_bytes version account

-- the bytes of two digests under one
abbrev pub node_bytes : List ℕ → List ℕ → List ℕ
node_bytes left right = 1 ∷ left ++ right

-- the bytes of a place without an account
abbrev pub empty_bytes : List ℕ
empty_bytes = 2 ∷ []

abbrev pub bytes_of : ℕ → Option Account → List ℕ
bytes_of version None = empty_bytes
bytes_of version (Some account) = leaf_bytes version account

-- the digest at a level and a place
unfoldable pub digest_at : Parts → ℕ → ℕ → List ℕ
digest_at parts zero place = sha256 (bytes_of parts.version (slice_get parts.accounts place))
digest_at parts (suc level) place =
    sha256 (node_bytes (digest_at parts level (2 * place)) (digest_at parts level (2 * place + 1)))

abbrev pub root_of : Parts → List ℕ
root_of parts = digest_at parts levels 0

-- ---- the digests beside the way from a place to the root

-- f 0, f 1 and so on, n of them
unfoldable pub listed : {X : Type 0} → (ℕ → X) → ℕ → List X
listed f zero = []
listed f (suc n) = listed f n ++ f n ∷ []

-- a number with its lowest bit changed: the place beside a place
abbrev pub place_beside : ℕ → ℕ
place_beside place = if place % 2 == 0 then place + 1 else place - 1

-- at level k the way goes through the place that is halved k times
abbrev pub sibling_at : Parts → ℕ → ℕ → List ℕ
sibling_at parts place k = digest_at parts k (place_beside (place / 2 ^ k))

abbrev pub siblings_of : Parts → ℕ → List (List ℕ)
siblings_of parts place = listed (sibling_at parts place) levels

-- ---- a good proof

-- the bytes of a digest and its sibling: it stands on the left where its place is even
abbrev pub joined_bytes : ℕ → List ℕ → List ℕ → List ℕ
joined_bytes place digest sibling =
    if place % 2 == 0 then node_bytes digest sibling else node_bytes sibling digest

abbrev pub joined : ℕ → List ℕ → List ℕ → List ℕ
joined place digest sibling = sha256 (joined_bytes place digest sibling)

-- the digest k levels above a leaf
unfoldable pub folded : ℕ → List (List ℕ) → List ℕ → ℕ → List ℕ
folded place siblings leaf zero = leaf
folded place siblings leaf (suc k) =
    joined (place / 2 ^ k) (folded place siblings leaf k) (slice_index_or siblings k [])

-- the digest of the account that a proof has
abbrev pub leaf_of : Proof → List ℕ
leaf_of proof = sha256 (leaf_bytes proof.version proof.account)

-- from its account a proof leads up to this root
abbrev pub IsGood : List ℕ → Proof → Type 0
IsGood root proof = folded proof.place proof.siblings (leaf_of proof) levels ≡ root
