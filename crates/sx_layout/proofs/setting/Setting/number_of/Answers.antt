use Rattle.std.proofs.Common.{ap, subst, ◌∙◌}
use Rattle.sx_layout.specs.Plan.{window_spot}
use Rattle.sx_layout.specs.Setting.{IsSetting, Setting}
use Rattle.sx_layout.proofs.TxPlaces.{number_is_at, setting_there}
use Rattle.sx_layout.proofs.setting.Setting.number_of.Goals as goal

pub returns-clause-number : goal.returns-clause-number
returns-clause-number c =
    number_is_at c.args.self.now (subst IsSetting c.self.view_is c.self.invariant.0) c.args.tx.now c.args.account
    c.bit_of-bit.result c.window_of.result c.requires.place
    (c.window_of.ensures ∙ ap (λ (s : Setting). window_spot s.plan c.args.account) c.self.view_is)
    c.bit_of-bit.ensures

pub returns-clause-there : goal.returns-clause-there
returns-clause-there c =
    setting_there c.args.self.now (subst IsSetting c.self.view_is c.self.invariant.0) c.args.tx.now c.requires.passes
    c.requires.own
