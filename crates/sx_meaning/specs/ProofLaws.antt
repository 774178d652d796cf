-- What holds of what is written of one account.
use Rattle.std.specs.Prelude.{◌≡◌, ◌⊎◌, ℕ, true, List, []}
use Rattle.sx_commit.specs.Claim.{Claim}
use Rattle.sx_meaning.specs.Items.{item_record, proof}
use Rattle.sx_meaning.specs.Outputs.{MayWrite}
use Rattle.sx_text.specs.Verdict.{proof_text}
use Rattle.sx_words.specs.declared.command.Command.TheVariants.{Prove, Verify}

-- a record of a proof of the account of this id was written, and a verification tells that it is good
pub record ProvesAccount (id : ℕ) (text : List ℕ) : Type 0 where
  pub claim : Claim
  pub is_id : claim.1.account.id.0 ≡ id
  pub written : text ≡ item_record (proof claim)
  pub good : MayWrite Verify text (proof_text claim.0 claim.1 true) []

-- what is written of an account is nothing, or the record of a good proof of it
abbrev pub ProvedIsGood : Type 0
ProvedIsGood =
    (id : ℕ) (bytes text left : List ℕ) → MayWrite (Prove id) bytes text left → (text ≡ []) ⊎ ProvesAccount id text
