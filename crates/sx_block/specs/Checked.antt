-- What is told of a block once it is judged.
use Rattle.std.specs.Prelude.{◌≡◌, ◌≢◌, ℕ, List, length, is_some}
use Rattle.sx_block.specs.declared.header.Block.{Block}
use Rattle.sx_block.specs.declared.header.Header.{Header}
use Rattle.sx_block.specs.Validity.{flow_of_block}
use Rattle.sx_block.specs.declared.checked.Checked.{Checked}
use Rattle.sx_block.specs.declared.invalid.Invalid.{Invalid}
use Rattle.sx_block.specs.declared.invalid.Invalid.TheVariants.{WrongAfter, WrongParent}
use Rattle.sx_dual.specs.Circulation.{traded_value}

-- what a header says of its block
abbrev pub checked_of : Block → Checked
checked_of block = record {
  height = block.header.height;
  value = traded_value (length block.header.prices) (flow_of_block block);
  dropped = is_some block.header.dropped;
}

-- the header names a ledger of another digest than this one as its parent, and the reason tells both
pub record IsWrongParent (header : Header) (parent : List ℕ) (why : Invalid) : Type 0 where
  pub is : why ≡ WrongParent header.parent parent
  pub differ : header.parent ≢ parent

-- the header says that the block leaves a ledger of another digest than this one, and the reason tells both
pub record IsWrongAfter (header : Header) (after : List ℕ) (why : Invalid) : Type 0 where
  pub is : why ≡ WrongAfter header.after after
  pub differ : header.after ≢ after
