-- How many searches the clearing of a body makes at most.
use Rattle.std.specs.Prelude.{ℕ, ◌+◌, ◌*◌, ◌≤◌}
use Rattle.sx_block.specs.declared.header.Block.{Block}
use Rattle.sx_block.specs.Validity.{high_in}
use Rattle.sx_ledger.specs.declared.parts.Parts.{Parts}
use Rattle.sx_ledger.specs.Ledger.{assets_of}
use Rattle.sx_level.specs.Solved.{HaveDigits, most_searches}

-- from one count of searches to another there are at most as many as two circulations take within the upper bounds of
-- the block, whatever number of digits these have
abbrev pub IsCounted : Parts → ℕ → ℕ → Block → Type 0
IsCounted parts old new block =
    (b : ℕ) → HaveDigits (assets_of parts) (high_in parts block) b → new ≤ old + 2 * most_searches (assets_of parts) b
