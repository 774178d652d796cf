-- When a block drops lower bounds.
use Rattle.std.specs.Prelude.{◌↔◌, IsTrue, is_some}
use Rattle.sx_block.specs.declared.header.Block.{Block}
use Rattle.sx_block.specs.Validity.{high_in, undropped_low_in}
use Rattle.sx_dual.specs.Circulation.{HaveNoCirculation}
use Rattle.sx_ledger.specs.declared.parts.Parts.{Parts}
use Rattle.sx_ledger.specs.Ledger.{assets_of}

-- exactly where no circulation keeps them
abbrev pub DropsExactly : Parts → Block → Type 0
DropsExactly parts block =
    IsTrue (is_some block.header.dropped)
    ↔ HaveNoCirculation (assets_of parts) (undropped_low_in parts block) (high_in parts block)
