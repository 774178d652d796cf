-- The proof of an account that stands in a ledger has the ranges of a proof.
use Rattle.std.proofs.Common.{◌≡◌, ℕ, ◌<◌, Some, length, sym, subst, arith}
use Rattle.std.specs.Prelude.{slice_get}
use Rattle.std.specs.List.{All}
use Rattle.std.proofs.lemmas.Option.{get_or_from_slice_get, slice_get_within}
use Rattle.sx_block.specs.Digest.{IsDigest}
use Rattle.sx_block.specs.declared.proof.Proof.{Proof}
use Rattle.sx_commit.specs.Clashes.{IsProof}
use Rattle.sx_commit.specs.Commitments.{levels, siblings_of}
use Rattle.sx_commit.specs.Laws.{TrueIsClaim}
use Rattle.sx_commit.proofs.Clashes.{siblings_length}
use Rattle.sx_commit.proofs.Digests.{digest_is, siblings_are}
use Rattle.sx_ledger.specs.declared.account.Account.{Account}
use Rattle.sx_ledger.specs.declared.parts.Parts.{Parts}
use Rattle.sx_ledger.specs.Ledger.{IsAccount, IsLedger, assets_of}

account_is : (parts : Parts) (place : ℕ) (account : Account) → IsLedger parts → place < length parts.accounts
    → slice_get parts.accounts place ≡ Some account → IsAccount parts.version (assets_of parts) account
account_is parts place account kept lt there =
    subst (IsAccount parts.version (assets_of parts))
    (get_or_from_slice_get parts.accounts place account account there)
    (kept.accounts place account lt)

pub proof_is : (parts : Parts) (proof : Proof) → IsLedger parts → proof.place < length parts.accounts
    → proof.version ≡ parts.version
    → slice_get parts.accounts proof.place ≡ Some proof.account
    → proof.siblings ≡ siblings_of parts proof.place
    → IsProof proof
proof_is parts proof kept lt version there siblings =
    let account = account_is parts proof.place proof.account kept lt there in
    let n : length proof.account.balances ≡ assets_of parts = account.balances in
    record {
      some_version = omega (arith, version, kept.some_version);
      few_versions = omega (arith, version, kept.few_versions);
      place = omega (arith, lt, kept.few_accounts);
      some_asset = omega (arith, n, kept.some_asset);
      few_assets = omega (arith, n, kept.few_assets);
      account = rw (version, n) account;
      whole = siblings_length parts proof.place proof.siblings siblings;
      siblings = subst (All IsDigest) (sym siblings) (siblings_are parts proof.place);
    }

-- and the root of the ledger with it the ranges of a record
pub true_is_claim : TrueIsClaim
true_is_claim parts proof kept within version there siblings = (
  digest_is parts levels 0,
  proof_is parts proof kept (slice_get_within parts.accounts proof.place proof.account there) version there siblings,
)
