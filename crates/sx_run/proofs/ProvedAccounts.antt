-- The proof of an account of a ledger, as it is made.
use Rattle.std.proofs.Common.{◌≡◌, ℕ, ◌<◌, List, length, Some, slice_get, sym, ap, ◌∙◌, arith}
use Rattle.sx_block.specs.declared.proof.Proof.{Proof}
use Rattle.sx_commit.specs.Claim.{IsClaim}
use Rattle.sx_commit.specs.Commitments.{most_places, root_of, siblings_of}
use Rattle.sx_commit.specs.Laws.{TrueIsClaim}
use Rattle.sx_ledger.specs.declared.account.Account.{Account}
use Rattle.sx_ledger.specs.declared.parts.Parts.{Parts}
use Rattle.sx_ledger.specs.Ledger.{IsLedger}
use Rattle.sx_meaning.specs.Proving.{proof_in}

module _ (parts : Parts) (shown : Proof) (place : ℕ) (is : IsLedger parts) (within : place < length parts.accounts)
    (version : shown.version ≡ parts.version) (at : shown.place ≡ place)
    (there : slice_get parts.accounts place ≡ Some shown.account)
    (siblings : shown.siblings ≡ siblings_of parts place) where
  pub claim_is : TrueIsClaim → IsClaim (root_of parts, shown)
  claim_is true_is_claim =
      let few : shown.place < most_places = omega (arith, at, within, is.few_accounts) in
      true_is_claim parts shown is few version (ap (slice_get parts.accounts) at ∙ there)
      (siblings ∙ ap (siblings_of parts) (sym at))

  pub proof_is : (account : Account) → slice_get parts.accounts place ≡ Some account
      → shown ≡ proof_in parts place account
  proof_is account here =
      let both = sym there ∙ here in
      let same : shown.account ≡ account = cc in
      ap (λ (v : ℕ). record {
        version = v;
        place = shown.place;
        account = shown.account;
        siblings = shown.siblings;
      }) version
      ∙ ap (λ (p : ℕ). record {
        version = parts.version;
        place = p;
        account = shown.account;
        siblings = shown.siblings;
      }) at
      ∙ ap (λ (a : Account). record {
        version = parts.version;
        place = place;
        account = a;
        siblings = shown.siblings;
      }) same
      ∙ ap (λ (digests : List (List ℕ)). record {
        version = parts.version;
        place = place;
        account = account;
        siblings = digests;
      }) siblings
