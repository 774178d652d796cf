use Rattle.std.proofs.Common.{◌≢◌, ◌<◌, ◌≤◌, length, arith, get_or-set_other, get_or-set_same, below_more}
use Rattle.sx_level.proofs.raising.raise.Goals as goal

pub loop-asset-preserved : goal.loop-asset-preserved
loop-asset-preserved c =
    let inv = c.loop-asset.invariant in
    let within : c.loop-asset.asset < length c.loop-asset.heights = omega arith in
    let same = inv.rest c.loop-asset.asset (omega arith) in
    record {
      done =
          below_more _ _
          (λ a lt. let other : a ≢ c.loop-asset.asset = omega arith in rw get_or-set_other (inv.done a lt))
          (rw get_or-set_same (omega (arith, same, c.rise_of.ensures.rise)));
      rest = λ a le.
          let other : a ≢ c.loop-asset.asset = omega arith in
          let later : c.loop-asset.asset ≤ a = omega arith in
          rw get_or-set_other (inv.rest a later);
    }
