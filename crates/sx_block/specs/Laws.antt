-- Laws of a block's encoding.
use Rattle.std.specs.Prelude.{◌≡◌, ℕ, ◌≤◌, length}
use Rattle.sx_block.specs.declared.header.Block.{Block}
use Rattle.sx_block.specs.Block.{IsBlock}
use Rattle.sx_block.specs.Encoding.{block_bytes}
use Rattle.sx_record.specs.Frame.{most_bytes}

-- the bytes of the longest block
abbrev pub longest_block : ℕ
longest_block = 35018614

-- no encoding has more
abbrev pub HasMostBytes : Type 0
HasMostBytes = (block : Block) → IsBlock block → length (block_bytes block) ≤ longest_block

-- and some block has as many
abbrev pub SomeHasMostBytes : Type 0
SomeHasMostBytes = (block : Block) × IsBlock block × (length (block_bytes block) ≡ longest_block)

-- which fit the payload of a record
abbrev pub EveryBlockFits : Type 0
EveryBlockFits = (block : Block) → IsBlock block → length (block_bytes block) ≤ most_bytes
