-- How long the encoding of a root and a proof is.
use Rattle.std.proofs.Common.{◌≡◌, ℕ, ◌+◌, ◌*◌, ◌^◌, ◌≤◌, true, false, cond, eqb, List, [], ◌∷◌, ◌++◌, length, refl, arith}
use Rattle.std.specs.Prelude.{replicate}
use Rattle.std.specs.List.{flat_map, AllByRecursion}
use Rattle.std.proofs.lemmas.List.{length-append}
use Rattle.std.proofs.lemmas.List.Elements.{All-replicate, recursion_from_All}
use Rattle.byteorder.specs.Endian.{big_bytes}
use Rattle.sx_block.specs.Digest.{IsDigest}
use Rattle.sx_bytes.proofs.Field.{AreBytes-big_bytes, length-big_bytes}
use Rattle.sx_block.specs.declared.proof.Proof.{Proof}
use Rattle.sx_commit.specs.Clashes.{IsProof}
use Rattle.sx_commit.specs.Encoding.{digest_bytes, fields_bytes}
use Rattle.sx_commit.specs.ProofLaws.{HasMostBytes, SomeHasMostBytes}
use Rattle.sx_ledger.specs.declared.account.Account.{Account}
use Rattle.sx_state.specs.Encoding.{account_bytes, map_bytes}
use Rattle.sx_ledger.specs.Ledger.{IsAccount}
use Rattle.sx_state.proofs.Lengths.{length-numbers}
use Rattle.sx_tx.specs.Window.{IsWindow, bit_length}

-- ---- no more

map_most : (version map : ℕ) → length (map_bytes version map) ≤ 8
map_most version map =
    elim (eqb version 1) as (λ b. length (cond b [] (big_bytes 8 map)) ≤ 8) [
      | true ↦ omega arith
      | false ↦ omega arith
    ]

account_most : (version assets : ℕ) (account : Account) → IsAccount version assets account
    → length (account_bytes version account) ≤ 24 + 8 * assets
account_most version assets account is =
    omega (
      arith,
      length-append (map_bytes version account.window.used) (flat_map (big_bytes 8) account.balances),
      map_most version account.window.used,
      length-numbers account.balances,
      is.balances,
    )

length-siblings : (siblings : List (List ℕ)) → AllByRecursion IsDigest siblings
    → length (flat_map digest_bytes siblings) ≡ length siblings * 32
length-siblings [] are = refl
length-siblings (digest ∷ others) are =
    let more : length (flat_map digest_bytes others) ≡ length others * 32 = length-siblings others are.1 in
    omega (arith, more, are.0.whole, length-append digest (flat_map digest_bytes others))

fields_most : (proof : Proof) → IsProof proof → length (fields_bytes proof) ≤ 798
fields_most proof is =
    let siblings = flat_map digest_bytes proof.siblings in
    omega (
      arith,
      length-append (account_bytes proof.version proof.account) siblings,
      account_most proof.version (length proof.account.balances) proof.account is.account,
      is.few_assets,
      length-siblings proof.siblings (recursion_from_All IsDigest proof.siblings is.siblings),
      is.whole,
    )

pub proof_most : HasMostBytes
proof_most claim is =
    omega (arith, length-append claim.0 (fields_bytes claim.1), is.0.whole, fields_most claim.1 is.1)

-- ---- and some has as many: of 32 assets, in version 2

digest : List ℕ
digest = big_bytes 32 0

is_digest : IsDigest digest
unfolding digest
is_digest = record { whole = length-big_bytes 32 0; bytes = AreBytes-big_bytes 32 0 }

abbrev widest : Account
widest = record { id = record { 0 = 0 }; window = record { last = 0; used = 0 }; balances = replicate 32 0 }

is_window : IsWindow 2 widest.window
unfolding bit_length
is_window = record { last = omega arith; fits = omega arith; map = refl }

is_widest : IsAccount 2 32 widest
is_widest = record {
  id = omega arith;
  window = is_window;
  balances = refl;
  in_range = All-replicate (λ balance. balance ≤ 2 ^ 62) 32 0 (omega arith);
}

abbrev longest : Proof
longest = record { version = 2; place = 0; account = widest; siblings = replicate 16 digest }

is_longest : IsProof longest
is_longest = record {
  some_version = omega arith;
  few_versions = omega arith;
  place = omega arith;
  some_asset = omega arith;
  few_assets = omega arith;
  account = is_widest;
  whole = refl;
  siblings = All-replicate IsDigest 16 digest is_digest;
}

as_many : length (digest ++ fields_bytes longest) ≡ 830
unfolding digest
as_many = refl

pub some_has_most : SomeHasMostBytes
some_has_most = ((digest, longest), (is_digest, is_longest), as_many)
