-- A circulation within bounds, or a cut.
use Rattle.std.specs.Prelude.{◌≡◌}
use Rattle.sx_dual.specs.Circulation.{IsCirculation}
use Rattle.sx_dual.specs.Cuts.{IsCutOf}
use Rattle.sx_dual.specs.Tables.{BoundsTable, low_of, high_of, value_of}
use Rattle.sx_feas.specs.declared.finding.Feas.{Feas}
use Rattle.sx_feas.specs.declared.finding.Feas.TheVariants.{Flow, Cut}

-- a flow is a circulation of the same assets within the bounds, and a cut is one by the bounds
abbrev pub IsAnswer : BoundsTable → Feas → Type 0
IsAnswer bounds (Flow flow) =
    (flow.assets ≡ bounds.assets) × IsCirculation bounds.assets (low_of bounds) (high_of bounds) (value_of flow)
IsAnswer bounds (Cut cut) = IsCutOf bounds cut.0
