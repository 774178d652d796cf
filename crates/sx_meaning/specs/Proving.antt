-- What is written of one account, of a proof of one, and of proposed blocks.
use Rattle.std.specs.Prelude.{◌≡◌, ◌↔◌, ℕ, ◌+◌, ◌==◌, Bool, List, [], ◌∷◌, Option, None, Some, IsTrue, if◌then◌else◌}
use Rattle.sx_block.specs.declared.header.Block.{Block}
use Rattle.sx_block.specs.declared.proof.Proof.{Proof}
use Rattle.sx_commit.specs.Claim.{Claim}
use Rattle.sx_commit.specs.Commitments.{IsGood, root_of, siblings_of}
use Rattle.sx_block.specs.Chain.{IsChain, ledger_after_all}
use Rattle.sx_ledger.specs.declared.account.Account.{Account}
use Rattle.sx_ledger.specs.declared.parts.Parts.{Parts}
use Rattle.sx_meaning.specs.Items.{item_record, proof, state_record}
use Rattle.sx_text.specs.Verdict.{proof_text}

-- ---- prove

-- the account of this id, and its place, where the first of the accounts has this place
abbrev pub account_from : ℕ → ℕ → List Account → Option (ℕ × Account)
account_from id place [] = None
account_from id place (account ∷ others) =
    if account.id.0 == id then Some (place, account) else account_from id (place + 1) others

-- what shows that an account is at a place of the ledger
abbrev pub proof_in : Parts → ℕ → Account → Proof
proof_in parts place account = record {
  version = parts.version;
  place = place;
  account = account;
  siblings = siblings_of parts place;
}

-- the record of the proof of an account, with the root of the ledger, or nothing where there is no account
abbrev pub shown_account : Parts → Option (ℕ × Account) → List ℕ
shown_account parts None = []
shown_account parts (Some (place, account)) = item_record (proof (root_of parts, proof_in parts place account))

-- what is written of the account of this id
abbrev pub proved : Parts → ℕ → List ℕ
proved parts id = shown_account parts (account_from id 0 parts.accounts)

-- ---- verify

-- the line that tells whether the proof is good for the root
pub record IsVerdict (claim : Claim) (text : List ℕ) : Type 0 where
  pub good : Bool
  pub tells : IsTrue good ↔ IsGood claim.0 claim.1
  pub written : text ≡ proof_text claim.0 claim.1 good

-- ---- follow

-- the record of the ledger after the chain that the blocks make
pub record IsFollowed (parts : Parts) (blocks : List Block) (text : List ℕ) : Type 0 where
  pub chain : List Block
  pub is : IsChain parts blocks chain
  pub written : text ≡ state_record (ledger_after_all parts chain)
