-- Where a chain of blocks stands.
use Rattle.std.specs.Prelude.{◌≡◌, IfSome}
use Rattle.sx_block.specs.Validity.{digest_of_ledger}
use Rattle.sx_digests.specs.StateDigest.{IsWhole, digest_in}
use Rattle.sx_input.specs.declared.head.Head.{Head}
use Rattle.sx_meaning.specs.Items.{state_record}

-- a head has the digest of its ledger, and its record, where that was written
pub record IsHead (head : Head) : Type 0 where
  pub state : IfSome head.state (λ written. written ≡ state_record head.ledger)
  pub digest : digest_in head.digest ≡ digest_of_ledger head.ledger
  pub whole : IsWhole head.digest
