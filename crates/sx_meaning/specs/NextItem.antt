-- What one more item of a replay changes.
use Rattle.std.specs.Prelude.{ℕ, ◌+◌}
use Rattle.sx_block.specs.Validity.{ledger_after}
use Rattle.sx_ledger.specs.declared.parts.Parts.{Parts}
use Rattle.sx_meaning.specs.Items.{Item, block}

-- the ledger, and the number of blocks, after an item
abbrev pub ledger_then : Parts → Item → Parts
ledger_then parts (block said) = ledger_after parts said
ledger_then parts _ = parts

abbrev pub blocks_then : ℕ → Item → ℕ
blocks_then blocks (block said) = blocks + 1
blocks_then blocks _ = blocks
