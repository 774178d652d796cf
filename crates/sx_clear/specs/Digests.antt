-- The digests of what is there before anything trades.
use Rattle.std.specs.Prelude.{◌≡◌, ℕ, List}
use Rattle.sha2.specs.Sha256.{sha256}
use Rattle.sx_block.specs.Digest.{IsDigest}
use Rattle.sx_block.specs.Validity.{digest_of_ledger}
use Rattle.sx_digests.specs.declared.body_writing.WrittenBody.{WrittenBody}
use Rattle.sx_clear.specs.declared.prices.digests.Digests.{Digests}
use Rattle.sx_ledger.specs.declared.parts.Parts.{Parts}
use Rattle.sx_tx.specs.declared.tx.Tx.{Tx}
use Rattle.sx_tx.specs.Transactions.{list_bytes}

-- this is the digest of a ledger
pub record IsParentDigest (parts : Parts) (digest : List ℕ) : Type 0 where
  pub hash : digest ≡ digest_of_ledger parts
  pub whole : IsDigest digest

-- this is the digest of transactions
pub record IsBodyDigest (txs : List Tx) (digest : List ℕ) : Type 0 where
  pub hash : digest ≡ sha256 (list_bytes txs)
  pub whole : IsDigest digest

-- this is the encoding of transactions, with its digest
pub record IsWrittenBody (txs : List Tx) (written : WrittenBody) : Type 0 where
  pub list : written.list ≡ list_bytes txs
  pub digest : IsBodyDigest txs written.digest

-- these are the digests of the ledger and of the transactions
pub record AreDigests (parts : Parts) (txs : List Tx) (digests : Digests) : Type 0 where
  pub parent : IsParentDigest parts digests.parent
  pub body : IsBodyDigest txs digests.body
