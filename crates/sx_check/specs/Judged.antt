-- What is known of a block once it is judged.
use Rattle.std.specs.Prelude.{◌≡◌}
use Rattle.sx_apply.specs.Effects.{AreEffects}
use Rattle.sx_block.specs.declared.header.Block.{Block}
use Rattle.sx_block.specs.Checked.{checked_of}
use Rattle.sx_block.specs.Validity.{IsApplicable, IsSound}
use Rattle.sx_check.specs.declared.judged.Judged.{Judged}
use Rattle.sx_ledger.specs.declared.parts.Parts.{Parts}

-- the block is sound, and this is what it says and does
pub record IsJudged (parts : Parts) (block : Block) (judged : Judged) : Type 0 where
  pub sound : IsSound parts block
  pub checked : judged.checked ≡ checked_of block
  pub effects : AreEffects parts block judged.effects

-- the block can be applied, and this is what it says and does
pub record CanBeApplied (parts : Parts) (block : Block) (judged : Judged) : Type 0 where
  pub applicable : IsApplicable parts block
  pub checked : judged.checked ≡ checked_of block
  pub effects : AreEffects parts block judged.effects
