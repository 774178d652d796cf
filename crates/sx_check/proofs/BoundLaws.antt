-- Bounds of pairs where lower ones are dropped, and where they stay.
use Rattle.std.proofs.Common.{◌≡◌, Option, Some, None, sym, subst}
use Rattle.std.specs.Prelude.{is_some}
use Rattle.sx_fill.specs.Bounds.{HasBounds}
use Rattle.sx_block.specs.declared.header.Block.{Block}
use Rattle.sx_block.specs.Validity.{CutHolds, high_in, low_in, offers_of, undropped_low_in}
use Rattle.sx_dual.specs.declared.cut.Cut.{Cut}
use Rattle.sx_dual.specs.Cuts.{IsCut}
use Rattle.sx_dual.specs.Tables.{BoundsTable}
use Rattle.sx_ledger.specs.declared.parts.Parts.{Parts}
use Rattle.sx_ledger.specs.Bounds.{low_of as low_at}
use Rattle.sx_ledger.specs.Ledger.{assets_of}

-- where lower bounds are dropped they are all 0
pub dropped_bounds : (parts : Parts) (block : Block) (cut : Cut) (bounds : BoundsTable)
    → block.header.dropped ≡ Some cut
    → HasBounds (assets_of parts) (λ sell buy. 0) (high_in parts block) bounds
    → HasBounds (assets_of parts) (low_in parts block) (high_in parts block) bounds
dropped_bounds parts block cut bounds dropped has =
    subst (λ (o : Option Cut). HasBounds (assets_of parts)
    (low_at block.header.prices block.header.mu (is_some o) (offers_of parts block)) (high_in parts block) bounds)
    (sym dropped) has

-- and else they stay
pub kept_bounds : (parts : Parts) (block : Block) (bounds : BoundsTable) → block.header.dropped ≡ None
    → HasBounds (assets_of parts) (undropped_low_in parts block) (high_in parts block) bounds
    → HasBounds (assets_of parts) (low_in parts block) (high_in parts block) bounds
kept_bounds parts block bounds kept has =
    subst (λ (o : Option Cut). HasBounds (assets_of parts)
    (low_at block.header.prices block.header.mu (is_some o) (offers_of parts block)) (high_in parts block) bounds)
    (sym kept) has

pub cut_holds : (parts : Parts) (block : Block) (cut : Cut) → block.header.dropped ≡ Some cut
    → IsCut (assets_of parts) (undropped_low_in parts block) (high_in parts block) cut.0
    → CutHolds (assets_of parts) (undropped_low_in parts block) (high_in parts block) block.header.dropped
cut_holds parts block cut dropped is =
    subst (CutHolds (assets_of parts) (undropped_low_in parts block) (high_in parts block)) (sym dropped) is
