-- What a good proof shows: what the ledger says, or two byte strings with one SHA-256.
use Rattle.std.specs.Prelude.{◌≡◌, ◌≢◌, ◌<◌, ◌≤◌, ℕ, List, length, Option, Some, None, slice_get}
use Rattle.std.specs.List.{All}
use Rattle.sha2.specs.Sha256.{sha256}
use Rattle.sx_base.specs.Ranges.{most_assets}
use Rattle.sx_block.specs.Digest.{IsDigest}
use Rattle.sx_commit.specs.declared.collision.Collision.{Collision}
use Rattle.sx_block.specs.declared.proof.Proof.{Proof}
use Rattle.sx_commit.specs.Commitments.{bytes_of, leaf_bytes, levels, most_places}
use Rattle.sx_ledger.specs.declared.parts.Parts.{Parts}
use Rattle.sx_ledger.specs.Ledger.{IsAccount, most_version}

-- the ranges of a proof
pub record IsProof (proof : Proof) : Type 0 where
  pub some_version : 1 ≤ proof.version
  pub few_versions : proof.version ≤ most_version
  pub place : proof.place < most_places
  pub some_asset : 1 ≤ length proof.account.balances
  pub few_assets : length proof.account.balances ≤ most_assets
  pub account : IsAccount proof.version (length proof.account.balances) proof.account
  pub whole : length proof.siblings ≡ levels
  pub siblings : All IsDigest proof.siblings

-- each has the length of a digest
abbrev pub AreWhole : List (List ℕ) → Type 0
AreWhole digests = All (λ digest. length digest ≡ 32) digests

-- the ledger has an account at the place of a proof, with the bytes of the account of the proof
abbrev pub IsSaid : Parts → Proof → Type 0
IsSaid parts proof =
    (proof.place < length parts.accounts)
    × (bytes_of parts.version (slice_get parts.accounts proof.place) ≡ leaf_bytes proof.version proof.account)

-- two different byte strings with one digest
abbrev pub IsCollision : Collision → Type 0
IsCollision collision =
    (collision.left ≢ collision.right) × (sha256 collision.left ≡ sha256 collision.right)

-- nothing exactly where the ledger says what the proof says, and else a collision
abbrev pub IsClash : Parts → Proof → Option Collision → Type 0
IsClash parts proof None = IsSaid parts proof
IsClash parts proof (Some collision) = (IsSaid parts proof → ⊥) × IsCollision collision
