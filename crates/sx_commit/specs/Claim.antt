-- What the record of a proof says: a root, and a proof of one account for it.
use Rattle.std.specs.Prelude.{ℕ, List}
use Rattle.sx_block.specs.Digest.{IsDigest}
use Rattle.sx_block.specs.declared.proof.Proof.{Proof}
use Rattle.sx_commit.specs.Clashes.{IsProof}

abbrev pub Claim : Type 0
Claim = List ℕ × Proof

-- the ranges of both, whether or not the proof is good for the root
abbrev pub IsClaim : Claim → Type 0
IsClaim claim = IsDigest claim.0 × IsProof claim.1
