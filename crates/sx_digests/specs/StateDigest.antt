-- The digest of a state, which a thread may still be making.
use Rattle.std.specs.Prelude.{ℕ, List}
use Rattle.sha2.specs.Sha256.{sha256}
use Rattle.sx_block.specs.Digest.{IsDigest}
use Rattle.sx_digests.specs.declared.state_digest.StateDigest.{StateDigest}
use Rattle.sx_digests.specs.declared.state_digest.StateDigest.TheVariants as state_digest
use Rattle.sx_record.specs.Frame.{record_bytes}
use Rattle.sx_record.specs.Tags.{state_tag}

-- the digest that is known, or that a thread has promised
abbrev pub digest_in : StateDigest → List ℕ
digest_in (state_digest.Known digest) = digest
digest_in (state_digest.Making handle) = sha256 (record_bytes state_tag handle.promise.payload.value)

-- the digest that is known is a digest, and a thread promises one
abbrev pub IsWhole : StateDigest → Type 0
IsWhole (state_digest.Known digest) = IsDigest digest
IsWhole (state_digest.Making handle) = Unit {0}
