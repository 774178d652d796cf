use Rattle.std.proofs.Common.{ℕ, sym, subst}
use Rattle.sx_layout.specs.declared.asked.Wanted.{Wanted}
use Rattle.sx_layout.specs.declared.spot.Spot.{Spot}
use Rattle.sx_layout.specs.Asked.{IsBitSpot, IsWanted}
use Rattle.sx_layout.proofs.setting.Setting.asked.Goals as goal

pub returns-clause-number_there : goal.returns-clause-number_there
returns-clause-number_there c =
    subst (λ (x : Spot × ℕ). IsBitSpot c.args.self.now.plan x.0 x.1) (sym c.number_of-bit.ensures.number)
    c.number_of-bit.ensures.there.number

pub returns-clause-wanted_there : goal.returns-clause-wanted_there
returns-clause-wanted_there c =
    subst (λ (w : Wanted). IsWanted c.args.self.now.plan w) (sym c.wanted-wanted.ensures.wanted)
    c.number_of-bit.ensures.there.wanted
