-- The definitions of commitments, computed at cases that were worked out by hand.
use Rattle.std.proofs.Common.{◌≡◌, ◌≢◌, ◌^◌, ◌<◌, ◌≤◌, ℕ, Some, None, List, [], ◌∷◌, ◌++◌, length, refl, ap, arith}
use Rattle.std.specs.Prelude.{slice_index}
use Rattle.std.specs.List.{All}
use Rattle.sha2.specs.Sha256.{sha256}
use Rattle.sx_block.specs.Digest.{IsDigest}
use Rattle.sx_commit.specs.declared.collision.Collision.{Collision}
use Rattle.sx_block.specs.declared.proof.Proof.{Proof}
use Rattle.sx_commit.specs.Clashes.{AreWhole, IsClash, IsProof, IsSaid}
use Rattle.sx_commit.specs.Commitments.{IsGood, digest_at, folded, leaf_bytes, listed, place_beside, root_of}
use Rattle.sx_commit.specs.Commitments.{siblings_of}
use Rattle.sx_ledger.specs.declared.account.Account.{Account}
use Rattle.sx_ledger.specs.declared.parts.Parts.{Parts}
use Rattle.sx_ledger.specs.Ledger.{IsAccount}

-- account 7 used the numbers up to 3, and 5; it holds 100 units of one asset
abbrev pub seven : Account
seven = record { id = record { 0 = 7 }; window = record { last = 3; used = 2 }; balances = 100 ∷ [] }

-- a ledger of version 2 with that account alone
abbrev ledger : Parts
ledger = record {
  version = 2;
  height = 0;
  prices = 2 ^ 24 ∷ [];
  rounding = 0 ∷ [];
  accounts = seven ∷ [];
  offers = [];
}

-- ---- the bytes of which digests are made

abbrev word : ℕ → List ℕ
word low = 0 ∷ 0 ∷ 0 ∷ 0 ∷ 0 ∷ 0 ∷ 0 ∷ low ∷ []

-- version 1 has no map of used numbers
leaves : (leaf_bytes 1 seven ≡ 0 ∷ 1 ∷ word 7 ++ word 3 ++ word 100)
    × (leaf_bytes 2 seven ≡ 0 ∷ 2 ∷ word 7 ++ word 3 ++ word 2 ++ word 100)
leaves = (refl, refl)

-- place 0 has the account, and place 1 has none; over the two stands the byte 1
lowest : (digest_at ledger 0 0 ≡ sha256 (leaf_bytes 2 seven)) × (digest_at ledger 0 1 ≡ sha256 (2 ∷ []))
    × (digest_at ledger 1 0 ≡ sha256 (1 ∷ digest_at ledger 0 0 ++ digest_at ledger 0 1))
    × (digest_at ledger 1 3 ≡ sha256 (1 ∷ digest_at ledger 0 6 ++ digest_at ledger 0 7))
unfolding digest_at
lowest = (refl, refl, refl, refl)

root : root_of ledger ≡ digest_at ledger 16 0
root = refl

-- the same in version 1
older : digest_at (record ledger { version = 1 }) 0 0 ≡ sha256 (leaf_bytes 1 seven)
unfolding digest_at
older = refl

-- the accounts 7, 8, 9 and 10, at the places 0 to 3
abbrev of_id : ℕ → Account
of_id id = record seven { id = record { 0 = id } }

abbrev four : Parts
four = record ledger { accounts = of_id 7 ∷ of_id 8 ∷ of_id 9 ∷ of_id 10 ∷ [] }

-- place 1 of level 1 stands over the places 2 and 3
over_two : digest_at four 1 1 ≡ sha256 (1 ∷ sha256 (leaf_bytes 2 (of_id 9)) ++ sha256 (leaf_bytes 2 (of_id 10)))
unfolding digest_at
over_two = refl

-- ---- the way from place 5: it goes through 5, 2, 1 and then 0

places : (place_beside 5 ≡ 4) × (place_beside 2 ≡ 3) × (place_beside 1 ≡ 0) × (place_beside 0 ≡ 1)
places = (refl, refl, refl, refl)

beside_five : siblings_of ledger 5
    ≡ digest_at ledger 0 4 ∷ digest_at ledger 1 3 ∷ digest_at ledger 2 0 ∷ digest_at ledger 3 1 ∷ digest_at ledger 4 1
    ∷ digest_at ledger 5 1 ∷ digest_at ledger 6 1 ∷ digest_at ledger 7 1 ∷ digest_at ledger 8 1 ∷ digest_at ledger 9 1
    ∷ digest_at ledger 10 1 ∷ digest_at ledger 11 1 ∷ digest_at ledger 12 1 ∷ digest_at ledger 13 1
    ∷ digest_at ledger 14 1 ∷ digest_at ledger 15 1 ∷ []
unfolding listed
beside_five = refl

-- from place 5 a digest stands right, left and right again
folded_thrice : (leaf a b c : List ℕ) → folded 5 (a ∷ b ∷ c ∷ []) leaf 3
    ≡ sha256 (1 ∷ c ++ sha256 (1 ∷ sha256 (1 ∷ a ++ leaf) ++ b))
unfolding folded
folded_thrice leaf a b c = refl

-- past the last sibling it stands beside nothing
folded_past : (leaf : List ℕ) → folded 0 [] leaf 1 ≡ sha256 (1 ∷ leaf ++ [])
unfolding folded
folded_past leaf = refl

-- ---- what is told of a proof

told_ranges : (proof : Proof) → IsProof proof
    → (1 ≤ proof.version) × (proof.version ≤ 2) × (proof.place < 65536) × (1 ≤ length proof.account.balances)
    × (length proof.account.balances ≤ 32) × IsAccount proof.version (length proof.account.balances) proof.account
    × (length proof.siblings ≡ 16) × All IsDigest proof.siblings
told_ranges proof is =
    (is.some_version, is.few_versions, is.place, is.some_asset, is.few_assets, is.account, is.whole, is.siblings)

told_whole : (digests : List (List ℕ)) → AreWhole digests → All (λ digest. length digest ≡ 32) digests
told_whole digests are = are

told_good : (top : List ℕ) (proof : Proof) → IsGood top proof
    → folded proof.place proof.siblings (sha256 (leaf_bytes proof.version proof.account)) 16 ≡ top
told_good top proof is = is

-- ---- what the ledger says, and what is told of a clash

abbrev proof_of : ℕ → ℕ → Proof
proof_of version place = record { version = version; place = place; account = seven; siblings = [] }

said : IsSaid ledger (proof_of 2 0)
said = (omega arith, refl)

-- no account stands at place 1
not_beyond : IsSaid ledger (proof_of 2 1) → ⊥
not_beyond is = omega (arith, is.0)

-- the ledger is of version 2
not_older : IsSaid ledger (proof_of 1 0) → ⊥
not_older is = let versions : 2 ≡ 1 = ap (λ (bytes : List ℕ). slice_index bytes 1) is.1 in omega (arith, versions)

-- account 7 stands at place 0, and another one at place 1
not_beside : IsSaid four (proof_of 2 1) → ⊥
not_beside is = let ids : 8 ≡ 7 = ap (λ (bytes : List ℕ). slice_index bytes 9) is.1 in omega (arith, ids)

told_nothing : (proof : Proof) → IsClash ledger proof None → IsSaid ledger proof
told_nothing proof is = is

told_one : (proof : Proof) (found : Collision) → IsClash ledger proof (Some found)
    → (IsSaid ledger proof → ⊥) × (found.left ≢ found.right) × (sha256 found.left ≡ sha256 found.right)
told_one proof found is = (is.0, is.1.0, is.1.1)
