-- Blocks that are applied in turn, each to what the one before it leaves.
use Rattle.std.specs.Prelude.{◌≡◌, ℕ, ◌+◌, List}
use Rattle.sx_block.specs.declared.header.Block.{Block}
use Rattle.sx_block.specs.Validity.{digest_of_ledger}
use Rattle.sx_follow.specs.Follower.{IsFollower}
use Rattle.sx_ledger.specs.declared.parts.Parts.{Parts}
use Rattle.sx_follow.specs.declared.leaving.Leaving.{Leaving}

-- a follower with this head has what is left as its head after so many steps more, whatever it began with
pub record LeadsTo (head : Parts) (blocks : List Block) (count : ℕ) (left : Leaving) : Type 0 where
  pub digest : left.digest ≡ digest_of_ledger left.ledger
  pub follows : (opening : Parts) (steps : ℕ)
      → IsFollower (record { opening = opening; blocks = blocks; steps = steps; head = head })
      → IsFollower (record { opening = opening; blocks = blocks; steps = steps + count; head = left.ledger })
