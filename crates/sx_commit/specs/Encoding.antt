-- The one encoding as bytes of a root and a proof.
use Rattle.std.specs.Prelude.{ℕ, List, ◌++◌, length}
use Rattle.std.specs.List.{flat_map}
use Rattle.byteorder.specs.Endian.{big_bytes}
use Rattle.sx_block.specs.declared.proof.Proof.{Proof}
use Rattle.sx_commit.specs.Claim.{Claim}
use Rattle.sx_state.specs.Encoding.{account_bytes}

-- a digest is written as it is
abbrev pub digest_bytes : List ℕ → List ℕ
digest_bytes digest = digest

-- what stands after the root
abbrev pub fields_bytes : Proof → List ℕ
fields_bytes proof =
    big_bytes 1 proof.version ++ (big_bytes 1 (length proof.account.balances) ++ (big_bytes 4 proof.place
    ++ (account_bytes proof.version proof.account ++ flat_map digest_bytes proof.siblings)))

-- the payload of a proof's record
abbrev pub proof_bytes : List ℕ → Proof → List ℕ
proof_bytes root proof = root ++ fields_bytes proof

abbrev pub claim_bytes : Claim → List ℕ
claim_bytes claim = proof_bytes claim.0 claim.1
