-- What a demonstration wrote.
use Rattle.std.specs.Prelude.{◌≡◌, ℕ, List}
use Rattle.sx_block.specs.declared.header.Block.{Block}
use Rattle.sx_block.specs.Checked.{checked_of}
use Rattle.sx_customer.specs.Fairness.{IsFair}
use Rattle.sx_customer.specs.Made.{IsMade}
use Rattle.sx_gen.specs.Candidates.{demo_txs}
use Rattle.sx_gen.specs.State.{demo_parts}
use Rattle.sx_outcome.specs.declared.outcome.Outcome.{Outcome}
use Rattle.sx_text.specs.Demonstration.{demo_text}

-- the summary of a block of the market that is drawn from the number, at a margin of 2^-10 and by one search of at most
-- 500 rounds
pub record Demonstrated (number : ℕ) (text : List ℕ) : Type 0 where
  pub said : Block
  pub told : List Outcome
  pub written : text ≡ demo_text number told (checked_of said) said.header
  pub made : IsMade demo_parts (demo_txs number) 10 500 1 said told
  pub fair : IsFair demo_parts said
