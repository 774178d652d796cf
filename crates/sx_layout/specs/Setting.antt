-- A ledger, the candidates, and where all their words are.
use Rattle.std.specs.Prelude.{◌≡◌, List}
use Rattle.sx_layout.specs.Plan.{Plan, plan_of}
use Rattle.sx_layout.specs.PlanLaws.{IsLaidOut}
use Rattle.sx_ledger.specs.declared.parts.Parts.{Parts}
use Rattle.sx_tx.specs.declared.tx.Tx.{Tx}

pub record Setting : Type 0 where
  pub parts : Parts
  pub candidates : List Tx
  pub plan : Plan

-- the plan is the one for these candidates on its number of shards
pub record IsSetting (setting : Setting) : Type 0 where
  pub laid_out : IsLaidOut setting.parts setting.candidates setting.plan.shards
  pub plan : setting.plan ≡ plan_of setting.parts setting.candidates setting.plan.shards
