-- What was written of one account, and of a proof of one.
use Rattle.std.specs.Prelude.{◌≡◌, ◌≢◌, ◌↔◌, ◌⊎◌, ℕ, Bool, true, List, [], Some, IsTrue, slice_get}
use Rattle.std.specs.List.{Contains}
use Rattle.sx_block.specs.declared.proof.Proof.{Proof}
use Rattle.sx_commit.specs.Commitments.{folded, leaf_of, levels, root_of, siblings_of}
use Rattle.sx_ledger.specs.declared.account.Account.{Account}
use Rattle.sx_ledger.specs.declared.parts.Parts.{Parts}
use Rattle.sx_ledger.specs.Ledger.{IsLedger}
use Rattle.sx_meaning.specs.Items.{item_record, proof, state_record}
use Rattle.sx_meaning.specs.Outputs.{MayWrite}
use Rattle.sx_text.specs.Verdict.{proof_text}
use Rattle.sx_words.specs.declared.command.Command.TheVariants.{Verify}

-- ---- prove

-- no account has the id, and nothing was written
pub record IsUnknown (parts : Parts) (id : ℕ) (text : List ℕ) : Type 0 where
  pub unknown : (account : Account) → Contains parts.accounts account → account.id.0 ≢ id
  pub nothing : text ≡ []

-- the account at a place has the id, and the record of the root and of a proof of the account was written
pub record IsShown (parts : Parts) (id : ℕ) (text : List ℕ) : Type 0 where
  pub place : ℕ
  pub account : Account
  pub there : slice_get parts.accounts place ≡ Some account
  pub is_id : account.id.0 ≡ id
  pub written : text ≡ item_record (proof (
    root_of parts,
    record {
      version = parts.version;
      place = place;
      account = account;
      siblings = siblings_of parts place;
    },
  ))

pub record Proved (id : ℕ) (input text : List ℕ) : Type 0 where
  pub parts : Parts
  pub ledger : IsLedger parts
  pub read : input ≡ state_record parts
  pub tells : IsUnknown parts id text ⊎ IsShown parts id text

-- a verification of what was written says that it is good
pub record IsGoodProof (id : ℕ) (text : List ℕ) : Type 0 where
  pub root : List ℕ
  pub shown : Proof
  pub is_id : shown.account.id.0 ≡ id
  pub written : text ≡ item_record (proof (root, shown))
  pub verifies : MayWrite Verify text (proof_text root shown true) []

-- ---- verify

-- a root and a proof were read, and it was written whether the proof leads from its account to the root
pub record Verified (input text : List ℕ) : Type 0 where
  pub root : List ℕ
  pub shown : Proof
  pub read : input ≡ item_record (proof (root, shown))
  pub good : Bool
  pub tells : IsTrue good ↔ (folded shown.place shown.siblings (leaf_of shown) levels ≡ root)
  pub written : text ≡ proof_text root shown good
