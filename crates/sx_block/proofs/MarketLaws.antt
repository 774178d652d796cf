-- What a block says of its trade, against the bounds of its pairs.
use Rattle.std.proofs.Common.{refl}
use Rattle.sx_block.specs.declared.header.Block.{Block}
use Rattle.sx_block.specs.Rule as rule
use Rattle.sx_block.specs.Validity.{HoldsButParent}
use Rattle.sx_block.specs.Invalid.{reason_of}
use Rattle.sx_block.specs.Refusals.{IsBlockMisfit, RefusesButParent}
use Rattle.sx_dual.specs.declared.cut.Cut.{Cut}
use Rattle.sx_dual.specs.declared.misfit.Misfit.{Misfit}
use Rattle.sx_dual.specs.declared.misfit.Misfit.TheVariants.{Outside, Unbalanced, Slack}
use Rattle.sx_block.specs.ValidityLaws.{BlockFits}
use Rattle.sx_block.proofs.Rules.{one_more_but}
use Rattle.sx_ledger.specs.declared.parts.Parts.{Parts}

-- ---- the reasons

pub misfit_refuses : (parts : Parts) (block : Block) (misfit : Misfit) → HoldsButParent rule.Within parts block
    → IsBlockMisfit parts block misfit → RefusesButParent parts block (reason_of misfit)
misfit_refuses parts block (Outside sell buy low high y) body m = record {
  before = body;
  breaks = m;
  early = λ said real e. absurd cc;
  other = λ said real e. absurd cc;
}
misfit_refuses parts block (Unbalanced asset out into) body m = record {
  before = one_more_but parts block rule.Within rule.Balanced refl body m.0;
  breaks = m;
  early = λ said real e. absurd cc;
  other = λ said real e. absurd cc;
}
misfit_refuses parts block (Slack sell buy gain y) body m = record {
  before = one_more_but parts block rule.Balanced rule.Tight refl
      (one_more_but parts block rule.Within rule.Balanced refl body m.0.within) m.0.balanced;
  breaks = m;
  early = λ said real e. absurd cc;
  other = λ said real e. absurd cc;
}

-- where the flow and the potentials fit, the three rules on them hold
pub fit_holds : (parts : Parts) (block : Block) → HoldsButParent rule.Within parts block → BlockFits parts block
    → HoldsButParent rule.Cut parts block
fit_holds parts block body fits =
    one_more_but parts block rule.Tight rule.Cut refl
    (one_more_but parts block rule.Balanced rule.Tight refl
    (one_more_but parts block rule.Within rule.Balanced refl body fits.circulation.within) fits.circulation.balanced)
    fits.tight
