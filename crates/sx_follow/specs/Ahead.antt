-- Blocks that are applied ahead of the digests: each on the ledger that the one before it leaves, before it is known
-- whether these ledgers have the digests that the blocks name.
use Rattle.std.specs.Prelude.{◌≡◌, ℕ, ◌+◌, ◌≤◌, List, [], ◌∷◌, length}
use Rattle.sha2.specs.Sha256.{sha256}
use Rattle.sx_block.specs.declared.header.Block.{Block}
use Rattle.sx_block.specs.Validity.{IsApplicable, ledger_after}
use Rattle.sx_follow.specs.declared.ahead.batch.Batch.{Batch}
use Rattle.sx_follow.specs.declared.ahead.batch.Claim.{Claim}
use Rattle.sx_ledger.specs.declared.parts.Parts.{Parts}
use Rattle.sx_state.specs.Encoding.{state_bytes}
use Rattle.sx_record.specs.Frame.{record_bytes}
use Rattle.sx_follow.specs.Chosen.{IsChosen}

-- The chosen block can be applied to the ledger, whose digest need not be the one that it names, and leaves the ledger
-- `after`. The claim has the state of that, and the digest that the block names of it.
pub record IsAhead (parts : Parts) (named : List ℕ) (blocks : List Block) (claim : Claim) (after : Parts) : Type 0 where
  pub place : ℕ
  pub chosen : IsChosen (parts.height + 1) named blocks place
  pub applicable : IsApplicable parts chosen.block
  pub ledger : after ≡ ledger_after parts chosen.block
  pub state : claim.state ≡ state_bytes after
  pub digest : claim.digest ≡ chosen.block.header.after

-- each is applied to the ledger that the one before it leaves, and the last leaves this ledger and names this digest of
-- it
abbrev pub AreAhead : Parts → List ℕ → List Block → List Claim → Parts → List ℕ → Type 0
AreAhead parts named blocks [] ledger digest = (ledger ≡ parts) × (digest ≡ named)
AreAhead parts named blocks (claim ∷ others) ledger digest =
    (after : Parts) × IsAhead parts named blocks claim after × AreAhead after claim.digest blocks others ledger digest

-- a batch of one block or more, from a ledger and the digest that is named of it on
pub record IsBatch (parts : Parts) (named : List ℕ) (blocks : List Block) (batch : Batch) : Type 0 where
  pub some : 1 ≤ length batch.claims.items
  pub ahead : AreAhead parts named blocks batch.claims.items batch.ledger batch.digest

-- the digest is that of the state record, whose tag is 1
abbrev pub IsRight : Claim → Type 0
IsRight claim = claim.digest ≡ sha256 (record_bytes 1 claim.state)
