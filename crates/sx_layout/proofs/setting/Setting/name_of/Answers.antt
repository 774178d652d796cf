use Rattle.std.proofs.Common.{ap, subst, ◌∙◌}
use Rattle.sx_layout.specs.Asked.{bit_wanted}
use Rattle.sx_layout.specs.Plan.{name_found}
use Rattle.sx_layout.specs.Setting.{IsSetting, Setting}
use Rattle.sx_layout.proofs.TxPlaces.{id_in_plan, name_is, name_is_there}
use Rattle.sx_layout.proofs.setting.Setting.name_of.Goals as goal

pub returns-clause-wanted : goal.returns-clause-wanted
returns-clause-wanted c =
    let plan = c.args.self.now.plan in
    let there = id_in_plan c.args.self.now (subst IsSetting c.self.view_is c.self.invariant.0) c.args.tx.now
    c.args.id.0 c.requires.own c.requires.creates in
    let told = c.name_of.ensures ∙ ap (λ (s : Setting). name_found s.plan c.args.id.0) c.self.view_is in
    ap bit_wanted (name_is plan c.args.id.0 c.name_of.result (c.in-Some.at, c.in-Some.bit) there told c.in-Some.is)

pub unreachable-requires : goal.unreachable-requires
unreachable-requires c =
    let there = id_in_plan c.args.self.now (subst IsSetting c.self.view_is c.self.invariant.0) c.args.tx.now
    c.args.id.0 c.requires.own c.requires.creates in
    let told = c.name_of.ensures ∙ ap (λ (s : Setting). name_found s.plan c.args.id.0) c.self.view_is in
    name_is_there c.args.self.now.plan c.args.id.0 c.name_of.result there told c.in-None.is
