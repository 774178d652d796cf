-- Laws of the encoding of a proof.
use Rattle.std.specs.Prelude.{◌≡◌, ℕ, ◌≤◌, length}
use Rattle.sx_commit.specs.Claim.{Claim, IsClaim}
use Rattle.sx_commit.specs.Encoding.{claim_bytes}

-- the bytes of the longest one
abbrev pub longest_proof : ℕ
longest_proof = 830

-- no encoding has more
abbrev pub HasMostBytes : Type 0
HasMostBytes = (claim : Claim) → IsClaim claim → length (claim_bytes claim) ≤ longest_proof

-- and some has as many
abbrev pub SomeHasMostBytes : Type 0
SomeHasMostBytes = (claim : Claim) × IsClaim claim × (length (claim_bytes claim) ≡ longest_proof)
