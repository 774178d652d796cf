-- Laws of commitments.
use Rattle.std.specs.Prelude.{◌≡◌, ℕ, ◌<◌, List, Some, slice_get}
use Rattle.sx_block.specs.declared.proof.Proof.{Proof}
use Rattle.sx_commit.specs.Claim.{IsClaim}
use Rattle.sx_commit.specs.Commitments.{IsGood, most_places, root_of, siblings_of}
use Rattle.sx_ledger.specs.declared.parts.Parts.{Parts}
use Rattle.sx_ledger.specs.Ledger.{IsLedger}

-- a proof of what stands at its place, with the siblings of that place, is good for the root
abbrev pub TrueIsGood : Type 0
TrueIsGood =
    (parts : Parts) (proof : Proof) → proof.place < most_places
    → proof.version ≡ parts.version
    → slice_get parts.accounts proof.place ≡ Some proof.account
    → proof.siblings ≡ siblings_of parts proof.place
    → IsGood (root_of parts) proof

-- and the root and such a proof keep the ranges of a record
abbrev pub TrueIsClaim : Type 0
TrueIsClaim =
    (parts : Parts) (proof : Proof) → IsLedger parts → proof.place < most_places
    → proof.version ≡ parts.version
    → slice_get parts.accounts proof.place ≡ Some proof.account
    → proof.siblings ≡ siblings_of parts proof.place
    → IsClaim (root_of parts, proof)

-- a proof is good for one root alone
abbrev pub GoodForOne : Type 0
GoodForOne = (proof : Proof) (one other : List ℕ) → IsGood one proof → IsGood other proof → one ≡ other
