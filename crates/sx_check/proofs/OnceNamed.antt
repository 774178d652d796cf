-- What is known of a block, once the ledger on which it stands is named.
use Rattle.sx_block.specs.declared.header.Block.{Block}
use Rattle.sx_block.specs.Rule as rule
use Rattle.sx_block.specs.Validity.{Holds}
use Rattle.sx_check.specs.declared.judged.Judged.{Judged}
use Rattle.sx_check.specs.declared.fault.CheckFault.{CheckFault}
use Rattle.sx_check.specs.declared.fault.CheckFault.TheVariants as check_fault
use Rattle.sx_block.specs.declared.invalid.Invalid.{Invalid}
use Rattle.sx_check.specs.Judged.{CanBeApplied, IsJudged}
use Rattle.sx_check.specs.Explanations.{ExplainsButParent, ExplainsEarly}
use Rattle.sx_block.proofs.Rules.{applicable_is_sound}
use Rattle.sx_ledger.specs.declared.parts.Parts.{Parts}
use Rattle.sx_block.proofs.Steps.{refuses_early}

module _ (parts : Parts) (block : Block) where
  pub explains_early : Holds rule.Parent parts block → (fault : CheckFault) → ExplainsButParent parts block fault
      → ExplainsEarly parts block fault
  explains_early named check_fault.NoMemory r = tt
  explains_early named (check_fault.Invalid why) r = refuses_early parts block named why r

  pub is_judged : Holds rule.Parent parts block → (judged : Judged) → CanBeApplied parts block judged
      → IsJudged parts block judged
  is_judged named judged can = record {
    sound = applicable_is_sound parts block can.applicable named;
    checked = can.checked;
    effects = can.effects;
  }
